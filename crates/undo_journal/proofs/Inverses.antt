-- Inverses that operators tell, and those that are kept beside them.
use Rattle.undo_journal.proofs.Prelude.{append-nil, kept_inverse, sym, ap, subst, ◌∙◌, arith, true≢false, ◌≡◌, ℕ, ◌+◌, ◌-◌, ◌<◌, ◌≤◌, true, false, List, [], ◌∷◌, ◌++◌, cond, not, take, drop, take-append-drop, take_at, append_assoc, get_or, get_or-append-add, get_or_append_left, get_or-drop, get_or-reverse, take_more, length, filter, reverse, Option, Some, None, is_some, refl, length-append, length-drop, length-take, length-reverse, reverse-append, reverse-reverse, filter-append, Model, inverse, Op, Store, AreAccepted, AreAccepted-front, AreAccepted-back, effects, effects-append, AllHaveRoom, all_after, told_inverse, tells, untold_in, next_inverse, left_after, inverses_of, taken_back, step_inverses, is_on_rings, Pairs, ArePaired, each_inverse, drop-drop, drop_all, drop_at}
use Rattle.std.proofs.Common.{inl, inr}
use Rattle.std.proofs.lemmas.Bool.{cases_lt}
use Rattle.undo_journal.proofs.Rooms.{ops_kept, ops-front, ops-back, keeps_all_after}
use Rattle.undo_journal.proofs.Turns.{reverse_last}
use Rattle.undo_journal.proofs.Marks.{each-length}
use Rattle.euler_operators.specs.declared.Op.TheVariants.{Mvfs, Kvfs, Mev, Kev, Mef, Kef, Kemr, Mekr, Kfmrh, Mfkrh, RingIn, RingOut, Outer, Merge, Part}

none_told : {X : Type 0} {k : X} → None ≡ Some k → {Y : Type 0} → Y
none_told e = absurd (true≢false (sym (ap is_some e)))

given : (d : Op) {x y : Op} → Some x ≡ Some y → x ≡ y
given d e = ap (λ (o : Option Op). from d o) e
  where
    from : Op → Option Op → Op
    from d None = d
    from d (Some o) = o

-- what an operator tells is its inverse, in every model
pub told_is : (M : Model) (o k : Op) → told_inverse o ≡ Some k → k ≡ inverse M o
unfolding inverse
told_is M (Mvfs s f l v p) k e = sym (given (Kvfs s) e)
told_is M (Mev a b h v p) k e = sym (given (Kev h) e)
told_is M (Mef a b h f l) k e = sym (given (Kef h) e)
told_is M (Part s t fs) k e = sym (given (Merge s t) e)
told_is M (Kvfs s) k e = none_told e
told_is M (Kev h) k e = none_told e
told_is M (Kef h) k e = none_told e
told_is M (Kemr h l) k e = none_told e
told_is M (Mekr a b h) k e = none_told e
told_is M (Kfmrh f g) k e = none_told e
told_is M (Mfkrh l f) k e = none_told e
told_is M (RingIn l f) k e = none_told e
told_is M (RingOut l f) k e = none_told e
told_is M (Outer l f) k e = none_told e
told_is M (Merge s t) k e = none_told e

pub told_alone : (M : Model) (o : Op) → tells o ≡ true → inverses_of (o ∷ []) [] ≡ inverse M o ∷ []
told_alone M o = alone (told_inverse o) (told_is M o)
  where
    alone : (t : Option Op) → ((k : Op) → t ≡ Some k → k ≡ inverse M o) → is_some t ≡ true → next_inverse t [] ++ [] ≡ inverse M o ∷ []
    alone (Some k) is e = λ i. is k refl i ∷ []
    alone None is e = absurd (true≢false (sym e))

-- of an operator and its inverse one tells the other, or both are on rings
pub are_paired : (M : Model) (o : Op) → ArePaired o (inverse M o)
unfolding inverse
are_paired M (Mvfs s f l v p) = refl
are_paired M (Kvfs s) = refl
are_paired M (Mev a b h v p) = refl
are_paired M (Kev h) = refl
are_paired M (Mef a b h f l) = refl
are_paired M (Kef h) = refl
are_paired M (Merge s t) = refl
are_paired M (Part s t fs) = refl
are_paired M (Kemr h l) = (refl, refl)
are_paired M (Mekr a b h) = (refl, refl)
are_paired M (Kfmrh f g) = (refl, refl)
are_paired M (Mfkrh l f) = (refl, refl)
are_paired M (RingIn l f) = (refl, refl)
are_paired M (RingOut l f) = (refl, refl)
are_paired M (Outer l f) = (refl, refl)

pub both_on_rings : (o inverse : Op) → ArePaired o inverse → tells o ≡ false → tells inverse ≡ false → (is_on_rings o ≡ true) × (is_on_rings inverse ≡ true)
both_on_rings o inverse = none (told_inverse o) (told_inverse inverse)
  where
    none : (t u : Option Op) → Pairs t u o inverse → is_some t ≡ false → is_some u ≡ false → (is_on_rings o ≡ true) × (is_on_rings inverse ≡ true)
    none (Some k) u pair e f = absurd (true≢false e)
    none None (Some k) pair e f = absurd (true≢false f)
    none None None pair e f = pair

-- ---- how many inverses are kept for some operators

untold-append : (xs ys : List Op) → untold_in (xs ++ ys) ≡ untold_in xs + untold_in ys
untold-append xs ys = ap length (filter-append (λ o. not (tells o)) xs ys) ∙ length-append (filter (λ o. not (tells o)) xs) (filter (λ o. not (tells o)) ys)

pub untold-reverse : (xs : List Op) → untold_in (reverse xs) ≡ untold_in xs
untold-reverse [] = refl
untold-reverse (x ∷ xs) =
    let turned = ap untold_in (reverse-append (x ∷ []) xs) ∙ untold-append (reverse xs) (x ∷ []) in
    omega (arith, turned, untold-reverse xs, untold-append (x ∷ []) xs)

abbrev count_of : Option Op → ℕ
count_of (Some k) = 0
count_of None = 1

counted_at : (t : Option Op) (o : Op) (os : List Op) → length (cond (not (is_some t)) (o ∷ os) os) ≡ count_of t + length os
counted_at (Some k) o os = omega arith
counted_at None o os = omega arith

counted : (o : Op) (os : List Op) → untold_in (o ∷ os) ≡ count_of (told_inverse o) + untold_in os
counted o os = counted_at (told_inverse o) o (filter (λ p. not (tells p)) os)

left_drops : (t : Option Op) (n : ℕ) (kept : List Op) → drop n (left_after t kept) ≡ drop (count_of t + n) kept
left_drops (Some k) n kept = ap (λ (m : ℕ). drop m kept) (omega arith)
left_drops None n kept = drop-drop n 1 kept

-- ---- the inverses of operators and of more

pub both : (xs ys kept : List Op) → inverses_of (xs ++ ys) kept ≡ inverses_of xs kept ++ inverses_of ys (drop (untold_in xs) kept)
both [] ys kept = refl
both (x ∷ xs) ys kept =
    let t = told_inverse x in
    ap (λ (ks : List Op). next_inverse t kept ++ ks)
    (both xs ys (left_after t kept)
    ∙ ap (λ (ks : List Op). inverses_of xs (left_after t kept) ++ inverses_of ys ks) (left_drops t (untold_in xs) kept)
    ∙ ap (λ (n : ℕ). inverses_of xs (left_after t kept) ++ inverses_of ys (drop n kept)) (sym (counted x xs)))
    ∙ sym (append_assoc (next_inverse t kept) (inverses_of xs (left_after t kept)) (inverses_of ys (drop (untold_in (x ∷ xs)) kept)))

next_is_short : (t : Option Op) (kept : List Op) → length (next_inverse t kept) ≤ 1
next_is_short (Some k) kept = omega arith
next_is_short None [] = omega arith
next_is_short None (k ∷ kept) = omega arith

-- there is at most one for each
pub are_short : (xs kept : List Op) → length (inverses_of xs kept) ≤ length xs
are_short [] kept = omega arith
are_short (x ∷ xs) kept =
    let t = told_inverse x in
    omega (arith, length-append (next_inverse t kept) (inverses_of xs (left_after t kept)), next_is_short t kept, are_short xs (left_after t kept))

-- ---- one step more

module _ (M : Model) (steps untold : List Op) (o : Op) where
  abbrev mine : Op
  mine = inverse M o

  first_of : (t : Option Op) → ((k : Op) → t ≡ Some k → k ≡ mine) → next_inverse t (reverse (untold ++ kept_inverse t mine)) ++ inverses_of (reverse steps) (left_after t (reverse (untold ++ kept_inverse t mine))) ≡ mine ∷ taken_back steps untold
  first_of (Some k) is = λ i. is k refl i ∷ inverses_of (reverse steps) (reverse (append-nil untold i))
  first_of None is = ap (λ (ks : List Op). take 1 ks ++ inverses_of (reverse steps) (drop 1 ks)) (reverse-append untold (mine ∷ []))

  pub one_more : step_inverses (steps ++ o ∷ []) (untold ++ kept_inverse (told_inverse o) mine) ≡ step_inverses steps untold ++ mine ∷ []
  one_more =
      ap reverse (ap (λ (xs : List Op). inverses_of xs (reverse (untold ++ kept_inverse (told_inverse o) mine))) (reverse-append steps (o ∷ []))
      ∙ first_of (told_inverse o) (told_is M o))
      ∙ reverse-append (mine ∷ []) (taken_back steps untold)

-- ---- the steps of a draft

pub turned : (steps untold : List Op) → reverse (step_inverses steps untold) ≡ taken_back steps untold
turned steps untold = reverse-reverse (taken_back steps untold)

-- as two slices have them
pub sliced : (xs ys steps untold : List Op) → xs ≡ steps → ys ≡ untold → taken_back xs ys ≡ reverse (step_inverses steps untold)
sliced xs ys steps untold is same = (λ i. taken_back (is i) (same i)) ∙ sym (turned steps untold)

pub whole : (M : Model) (steps untold : List Op) → step_inverses steps untold ≡ each_inverse M steps → length (taken_back steps untold) ≡ length steps
whole M steps untold paired = sym (length-reverse (taken_back steps untold)) ∙ ap length paired ∙ each-length M steps

-- ---- the last operator is taken back, and then the others
module _ (s : Store) (ops kept left : List Op) (o : Op) (some : 1 ≤ length ops) (is : o ≡ get_or ops (length ops - 1) o) (rest : reverse left ≡ left_after (told_inverse o) (reverse kept)) where
  abbrev others : List Op
  others = take (length ops - 1) ops

  abbrev now : List Op
  now = next_inverse (told_inverse o) (reverse kept)

  parts : taken_back ops kept ≡ now ++ taken_back others left
  parts =
      ap (λ (xs : List Op). inverses_of xs (reverse kept)) (reverse_last ops o some is)
      ∙ ap (λ (ks : List Op). now ++ inverses_of (reverse others) ks) (sym rest)

  pub others_accepted : AreAccepted s.model (taken_back ops kept) → AreAccepted (all_after s now).model (taken_back others left)
  others_accepted accepted = AreAccepted-back s.model now (taken_back others left) (subst (AreAccepted s.model) parts accepted)

  pub others_room : AllHaveRoom s (taken_back ops kept) → AllHaveRoom (all_after s now) (taken_back others left)
  others_room room = ops_kept s (all_after s now) (taken_back others left) (keeps_all_after s now) (ops-back s now (taken_back others left) (subst (AllHaveRoom s) parts room))

  pub others_after : all_after (all_after s now) (taken_back others left) ≡ all_after s (taken_back ops kept)
  others_after = ap (λ (M : Model). record s { model = M }) (sym (ap (effects s.model) parts ∙ effects-append s.model now (taken_back others left)))

module _ (s : Store) (ops kept : List Op) (o : Op) (some : 1 ≤ length ops) (is : o ≡ get_or ops (length ops - 1) o) where
  abbrev first : List Op
  first = next_inverse (told_inverse o) (reverse kept)

  abbrev later : List Op
  later = inverses_of (reverse (take (length ops - 1) ops)) (left_after (told_inverse o) (reverse kept))

  first_parts : taken_back ops kept ≡ first ++ later
  first_parts = ap (λ (xs : List Op). inverses_of xs (reverse kept)) (reverse_last ops o some is)

  pub first_accepted : AreAccepted s.model (taken_back ops kept) → AreAccepted s.model first
  first_accepted accepted = AreAccepted-front s.model first later (subst (AreAccepted s.model) first_parts accepted)

  pub first_room : AllHaveRoom s (taken_back ops kept) → AllHaveRoom s first
  first_room room = ops-front s first later (subst (AllHaveRoom s) first_parts room)

-- ---- the steps from a place on are taken back

from_the_last : (xs : List Op) (n : ℕ) → drop n (reverse xs) ≡ reverse (take (length xs - n) xs)
from_the_last xs n = elim (cases_lt (length xs) n) [ inl past ↦ beyond past | inr fits ↦ within fits ]
  where
    within : n ≤ length xs → drop n (reverse xs) ≡ reverse (take (length xs - n) xs)
    within fits =
        let m = length xs - n in
        let turned_parts = ap reverse (sym (take-append-drop m xs)) ∙ reverse-append (take m xs) (drop m xs) in
        ap (drop n) turned_parts ∙ drop_at (reverse (drop m xs)) (reverse (take m xs)) n (omega (arith, fits, length-reverse (drop m xs), length-drop m xs))

    beyond : length xs < n → drop n (reverse xs) ≡ reverse (take (length xs - n) xs)
    beyond past =
        let none : 0 ≡ length xs - n = omega (arith, past) in
        drop_all n (reverse xs) (omega (arith, past, length-reverse xs)) ∙ ap (λ (m : ℕ). reverse (take m xs)) none

module _ (steps untold : List Op) (place : ℕ) (all : length (taken_back steps untold) ≡ length steps) (inside : place < length steps) where
  abbrev front : List Op
  front = take place steps

  abbrev after_it : List Op
  after_it = drop place steps

  abbrev kept_for : List Op
  kept_for = take (length untold - untold_in after_it) untold

  step_parts : taken_back steps untold ≡ taken_back after_it untold ++ taken_back front kept_for
  step_parts =
      ap (λ (xs : List Op). inverses_of xs (reverse untold)) (ap reverse (sym (take-append-drop place steps)) ∙ reverse-append front after_it)
      ∙ both (reverse after_it) (reverse front) (reverse untold)
      ∙ ap (λ (ks : List Op). taken_back after_it untold ++ inverses_of (reverse front) ks)
      (ap (λ (n : ℕ). drop n (reverse untold)) (untold-reverse after_it) ∙ from_the_last untold (untold_in after_it))

  front_whole : length (taken_back front kept_for) ≡ place
  front_whole =
      omega (arith, inside, all, ap length step_parts, length-append (taken_back after_it untold) (taken_back front kept_for), are_short (reverse after_it) (reverse untold), are_short (reverse front) (reverse kept_for), length-reverse after_it, length-reverse front, length-drop place steps, length-take place steps)

  in_order : step_inverses steps untold ≡ step_inverses front kept_for ++ reverse (taken_back after_it untold)
  in_order = ap reverse step_parts ∙ reverse-append (taken_back after_it untold) (taken_back front kept_for)

  at_place : length (step_inverses front kept_for) ≡ place
  at_place = length-reverse (taken_back front kept_for) ∙ front_whole

  pub front_inverses : step_inverses front kept_for ≡ take place (step_inverses steps untold)
  front_inverses = sym (ap (take place) in_order ∙ take_at (step_inverses front kept_for) (reverse (taken_back after_it untold)) place at_place)

  pub later_back : taken_back after_it untold ≡ reverse (drop place (step_inverses steps untold))
  later_back =
      sym (ap (λ (xs : List Op). reverse (drop place xs)) in_order
      ∙ ap reverse (drop_at (step_inverses front kept_for) (reverse (taken_back after_it untold)) place at_place)
      ∙ reverse-reverse (taken_back after_it untold))

-- ---- what takes one of some operators back

module _ (ops untold : List Op) (index : ℕ) (o : Op) (all : length (taken_back ops untold) ≡ length ops) (inside : index < length ops) (is : o ≡ get_or ops (length ops - 1 - index) o) where
  abbrev place : ℕ
  place = length ops - 1 - index

  abbrev before_it : List Op
  before_it = take place ops

  abbrev behind_it : List Op
  behind_it = drop (place + 1) ops

  abbrev told : Option Op
  told = told_inverse o

  abbrev kept_behind : List Op
  kept_behind = drop (untold_in behind_it) (reverse untold)

  abbrev last_ones : List Op
  last_ones = inverses_of (reverse behind_it) (reverse untold)

  abbrev first_ones : List Op
  first_ones = inverses_of (reverse before_it) (left_after told kept_behind)

  around : reverse ops ≡ reverse behind_it ++ o ∷ reverse before_it
  around =
      ap reverse (sym (take-append-drop (place + 1) ops)) ∙ reverse-append (take (place + 1) ops) behind_it
      ∙ ap (λ (xs : List Op). reverse behind_it ++ reverse xs) (take_more ops place o (omega (arith, inside)) ∙ ap (λ (p : Op). before_it ++ p ∷ []) (sym is))
      ∙ ap (λ (xs : List Op). reverse behind_it ++ xs) (reverse-append before_it (o ∷ []))

  pieces : taken_back ops untold ≡ last_ones ++ (next_inverse told kept_behind ++ first_ones)
  pieces =
      ap (λ (xs : List Op). inverses_of xs (reverse untold)) around
      ∙ both (reverse behind_it) (o ∷ reverse before_it) (reverse untold)
      ∙ ap (λ (n : ℕ). last_ones ++ inverses_of (o ∷ reverse before_it) (drop n (reverse untold))) (untold-reverse behind_it)

  sizes : length last_ones + (length (next_inverse told kept_behind) + length first_ones) ≡ length ops
  sizes =
      ap (λ (n : ℕ). length last_ones + n) (sym (length-append (next_inverse told kept_behind) first_ones))
      ∙ sym (length-append last_ones (next_inverse told kept_behind ++ first_ones)) ∙ sym (ap length pieces) ∙ all

  last_size : length last_ones ≤ index
  last_size = omega (arith, inside, are_short (reverse behind_it) (reverse untold), length-reverse behind_it, length-drop (place + 1) ops)

  first_size : length first_ones ≤ length ops - 1 - index
  first_size = omega (arith, inside, are_short (reverse before_it) (left_after told kept_behind), length-reverse before_it, length-take place ops)

  one_there : length (next_inverse told kept_behind) ≡ 1
  one_there = omega (arith, inside, sizes, last_size, first_size, next_is_short told kept_behind)

  last_whole : length last_ones ≡ index
  last_whole = omega (arith, inside, sizes, last_size, first_size, next_is_short told kept_behind)

  behind : index ≡ length last_ones + 0
  behind = omega (arith, last_whole)

  at_index : (d : Op) → get_or (taken_back ops untold) index d ≡ get_or (next_inverse told kept_behind) 0 d
  at_index d =
      ap (λ (xs : List Op). get_or xs index d) pieces
      ∙ ap (λ (n : ℕ). get_or (last_ones ++ (next_inverse told kept_behind ++ first_ones)) n d) behind
      ∙ get_or-append-add last_ones (next_inverse told kept_behind ++ first_ones) 0 d
      ∙ get_or_append_left (next_inverse told kept_behind) first_ones d 0 (omega (arith, one_there))

  pub told_there : (k : Op) → told_inverse o ≡ Some k → k ≡ get_or (taken_back ops untold) index k
  told_there k tells_it = sym (at_index k ∙ ap (λ (t : Option Op). get_or (next_inverse t kept_behind) 0 k) tells_it)

  module _ (untells : told_inverse o ≡ None) where
    one_kept : length (take 1 kept_behind) ≡ 1
    one_kept = ap (λ (t : Option Op). length (next_inverse t kept_behind)) (sym untells) ∙ one_there

    pub kept_enough : untold_in behind_it < length untold
    kept_enough = omega (arith, one_kept, length-take 1 kept_behind, length-drop (untold_in behind_it) (reverse untold), length-reverse untold)

    first_kept : (ks : List Op) (d : Op) → get_or (take 1 ks) 0 d ≡ get_or ks 0 d
    first_kept [] d = refl
    first_kept (k ∷ ks) d = refl

    pub kept_there : (d : Op) → get_or untold (length untold - 1 - untold_in behind_it) d ≡ get_or (taken_back ops untold) index d
    kept_there d =
        sym (at_index d
        ∙ ap (λ (t : Option Op). get_or (next_inverse t kept_behind) 0 d) untells
        ∙ first_kept kept_behind d
        ∙ get_or-drop (untold_in behind_it) (reverse untold) 0 d
        ∙ ap (λ (n : ℕ). get_or (reverse untold) n d) (omega arith)
        ∙ get_or-reverse untold (untold_in behind_it) d kept_enough)
