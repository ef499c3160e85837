-- What it says that a glue isn't refused.
use Rattle.shapes.proofs.Prelude.{◌≡◌, ◌≢◌, ℕ, suc, true, false, not, nat_eq, ◌&&◌, ◌||◌, List, [], ◌∷◌, ◌++◌, length, Some, None, unwrap_or, refl, sym, ap, ◌∙◌, subst, arith, true≢false, ◌⊎◌, inl, inr, map, reverse, eq-eqb, append-nil, not-true, not-false, eqb-false, Point, same_point, origin, moved, cross, count, IsIn, IsApart, head_or, last_or, canonical, IsPath, IsRing, IsRotation, successor, predecessor, rest, mate, Model, cycle, holds, content, face_of, solid_of, outer, tail, point_of, after, rings_of, Sound, Has, HasHalf, IsCycle, AllHold, first_refusal, is_lone, lists, has_rings, tick_same, canonical_same, canonical-rotates, count-canonical, IsApart-same, IsRotation-same, IsRotation-length, IsRing-same, IsIn_successor, IsIn_predecessor, successor_same, successor-predecessor, predecessor-successor, front_of, apart_at, rotation_at, next_is_successor, reverse-cons, reverse_at, count-reverse, successor-map, successor-reverse, mate-mate, mate_other, zero_first_where, in-holds, loop_number, and_first, first_fails, or_true, no_cons, IsIn-map, same_as, all_hold, listed_as, IsIn-from_listed, loop_row, face_there, no_rings_means, not_lone_cycle, empty_is, IsLoop, loop_sound, start, finish, boundary, items_in, loops_of, faces_of_both, least_lone, first_such, AreLeft, taken_in, area, normal, is_flat, plane_of, rim, outline, has_repeats, is_rotation, partner, face_conditions, early_glue_conditions, glue_conditions, glue_refusal, fresh_edge}
use Rattle.euler_operators.specs.Table as table
use Rattle.shapes.proofs.fresh.Rows.{none_above}
use Rattle.shapes.proofs.fresh.Tests.{none_found, none_is_lone, none_such, numbers_are_left, number_fits}
use Rattle.shapes.proofs.glue.Facing.{Facing}
use Rattle.shapes.proofs.glue.Points.{same_is, no_points, both_points, once, turned_list, other_list, such_is, there_and_back}

-- ---- a loop of a sound model

module _ (M : Model) (sound : Sound M) where
  -- each item ends at the point where the next one starts
  pub next_start : (h : ℕ) → HasHalf M h → start M (after M h) ≡ finish M h
  next_start h there = ap (point_of M) (sound.ends_meet h there)

  module _ (l : ℕ) (hs : List ℕ) (has : Has M.loops l) (is : content M l ≡ cycle hs) where
    pub cycle_l : IsCycle hs
    cycle_l = sound.cycles l hs has is

    pub half_l : (h : ℕ) → IsIn h hs → HasHalf M h
    half_l h i = sound.only_edges h l (ap (λ c. holds h c) is ∙ in-holds h (cycle hs) i)

    pub ring_l : IsRing (after M) hs
    ring_l = (subst (IsLoop (after M)) is (loop_sound M sound l has)).1

    pub next_in : (h : ℕ) → IsIn h hs → IsIn (after M h) hs
    next_in h i = subst (λ q. IsIn q hs) (sym (next_is_successor (after M) hs h ring_l i)) (IsIn_successor h hs i)

    pub next_once : (h k : ℕ) → IsIn h hs → IsIn k hs → after M h ≡ after M k → h ≡ k
    next_once h k i j e =
        sym (predecessor-successor h hs cycle_l.apart i)
        ∙ ap (predecessor hs) (sym (next_is_successor (after M) hs h ring_l i) ∙ e ∙ next_is_successor (after M) hs k ring_l j)
        ∙ predecessor-successor k hs cycle_l.apart j

    -- no item leads to itself
    pub next_other : (h : ℕ) → IsIn h hs → after M h ≢ h
    next_other h i e = sound.ends_differ h (half_l h i) (sym (ap (tail M) e) ∙ sound.ends_meet h (half_l h i))

-- ---- a flat face without rings has three items or more

two_of : (gs : List ℕ) → length gs ≡ 2 → (u : ℕ) × (v : ℕ) × (gs ≡ u ∷ v ∷ [])
two_of [] e = absurd (omega (arith, e))
two_of (u ∷ []) e = absurd (omega (arith, e))
two_of (u ∷ v ∷ []) e = (u, v, refl)
two_of (u ∷ v ∷ w ∷ gs) e = absurd (omega (arith, e))

module _ (M : Model) (sound : Sound M) (g : ℕ) (there : Has M.faces g) (alone : has_rings M g ≡ false) (is : content M (outer M g) ≡ cycle (rim M g)) where
  abbrev gs : List ℕ
  gs = rim M g

  pub no_rings : rings_of M g ≡ []
  unfolding has_rings
  no_rings = empty_is (rings_of M g) alone

  boundary_is : boundary M g ≡ gs
  unfolding boundary loops_of
  boundary_is = ap (λ ls. gs ++ items_in M ls) no_rings ∙ append-nil gs

  has_l : Has M.loops (outer M g)
  has_l = (sound.outers_there g there).0

  -- two items go there and back
  two_thin : (u v : ℕ) → gs ≡ u ∷ v ∷ [] → normal M g ≡ origin
  unfolding normal
  two_thin u v e =
      let r : IsRing (after M) (u ∷ v ∷ []) = subst (IsRing (after M)) e (ring_l M sound (outer M g) gs has_l is) in
      let old : (h : ℕ) → IsIn h (u ∷ v ∷ []) → HasHalf M h = λ h i. half_l M sound (outer M g) gs has_l is h (omega (arith, i, ap (count h) e)) in
      let first : finish M u ≡ start M v = sym (next_start M sound u (old u (omega (arith, tick_same u)))) ∙ ap (start M) r.0 in
      let second : finish M v ≡ start M u = sym (next_start M sound v (old v (omega (arith, tick_same v)))) ∙ ap (start M) r.1.0 in
      ap (area M) (boundary_is ∙ e)
      ∙ (λ i. moved (cross (start M u) (first i)) (moved (cross (start M v) (second i)) origin))
      ∙ there_and_back (start M u) (start M v)

  has_normal : is_flat M g ≡ true → not (same_point (normal M g) origin) ≡ true
  unfolding is_flat plane_of
  has_normal flat = and_first (not (same_point (normal M g) origin)) _ flat

  pub never_two : is_flat M g ≡ true → length gs ≢ 2
  never_two flat two = let p = two_of gs two in true≢false (sym (has_normal flat) ∙ ap not (same_as (normal M g) origin (two_thin p.0 p.1 p.2)))

-- ---- the partners of a path

head_in : (gs ys : List ℕ) (e : ℕ) → ((y : ℕ) → IsIn y ys → IsIn y gs) → IsIn e gs → IsIn (head_or e ys) gs
head_in gs [] e yi ei = ei
head_in gs (y ∷ ys) e yi ei = yi y (omega (arith, tick_same y))

head_in_self : (gs ys : List ℕ) → ys ≢ [] → ((y : ℕ) → IsIn y ys → IsIn y gs) → IsIn (head_or 0 ys) gs
head_in_self gs [] some yi = absurd (some refl)
head_in_self gs (y ∷ ys) some yi = yi y (omega (arith, tick_same y))

same_heads_some : (a : ℕ → Point) (xs ys : List ℕ) → map a xs ≡ map a ys → xs ≢ [] → a (head_or 0 xs) ≡ a (head_or 0 ys)
same_heads_some a [] ys e some = absurd (some refl)
same_heads_some a (x ∷ xs) [] e some = absurd (no_points e)
same_heads_some a (x ∷ xs) (y ∷ ys) e some = (both_points e).0

some_other : (a : ℕ → Point) (xs ys : List ℕ) → map a xs ≡ map a ys → xs ≢ [] → ys ≢ []
some_other a [] ys e some = absurd (some refl)
some_other a (x ∷ xs) [] e some = absurd (no_points e)
some_other a (x ∷ xs) (y ∷ ys) e some = no_cons y ys

-- a list moved on by one, with d at its end
abbrev shifted : List ℕ → ℕ → List ℕ
shifted [] d = []
shifted (y ∷ ys) d = ys ++ d ∷ []

shifted_on : (ys : List ℕ) (d : ℕ) → head_or d ys ∷ shifted ys d ≡ ys ++ d ∷ []
shifted_on [] d = refl
shifted_on (y ∷ ys) d = refl

same_heads : (a : ℕ → Point) (xs ys : List ℕ) (d e : ℕ) → map a xs ≡ map a ys → a d ≡ a e → a (head_or d xs) ≡ a (head_or e ys)
same_heads a [] [] d e p q = q
same_heads a [] (y ∷ ys) d e p q = absurd (no_points (sym p))
same_heads a (x ∷ xs) [] d e p q = absurd (no_points p)
same_heads a (x ∷ xs) (y ∷ ys) d e p q = (both_points p).0

turned_back : (ts ks : List ℕ) → ts ≢ [] → ks ≡ shifted ts (head_or 0 ts) → IsRotation (reverse ts) (reverse ks)
turned_back [] ks some e = absurd (some refl)
turned_back (t ∷ ts) ks some e = record { front = reverse ts; back = t ∷ []; here = reverse-cons t ts; there = ap reverse e ∙ reverse_at t ts [] }

shape_of : (hs : List ℕ) → hs ≢ [] → ((h : ℕ) → hs ≢ h ∷ []) → (h : ℕ) × (mid : List ℕ) × (last : ℕ) × (hs ≡ h ∷ (mid ++ last ∷ []))
shape_of [] some more = absurd (some refl)
shape_of (h ∷ []) some more = absurd (more h refl)
shape_of (h ∷ k ∷ ks) some more = let p = front_of k ks in (h, p.0, last_or k ks, ap (λ t. h ∷ t) p.1)

-- ---- a glue that isn't refused

-- what the conditions of a glue say, by name
pub record GlueGoes (M : Model) (f g : ℕ) : Type 0 where
  pub f_there : Has M.faces f
  pub g_there : Has M.faces g
  pub solids_apart : solid_of M f ≢ solid_of M g
  pub ringless_f : has_rings M f ≡ false
  pub ringless_g : has_rings M g ≡ false
  pub none_lone : table.first_where (λ _ row. is_lone row.content && lists (faces_of_both M (solid_of M f) (solid_of M g)) row.face) M.loops ≡ 0
  pub none_bent : first_such (λ k. not (is_flat M k)) (faces_of_both M (solid_of M f) (solid_of M g)) ≡ None
  pub points_f : has_repeats (outline M f) ≡ false
  pub points_g : has_repeats (outline M g) ≡ false
  pub matches : is_rotation (outline M f) (reverse (outline M g)) ≡ true
  pub left : AreLeft (taken_in M) (record { faces = 0; loops = 0; edges = 1; vertices = 0 })

pub faces_there : (M : Model) (f g : ℕ) → first_refusal (face_conditions M f g) ≡ None → Has M.faces f × Has M.faces g
faces_there M f g e = let (_, (_, (first, (second, _)))) = all_hold (face_conditions M f g) e in (first, second)

pub glue_goes : (M : Model) (f g : ℕ) → glue_refusal M f g ≡ None → GlueGoes M f g
unfolding glue_conditions early_glue_conditions
glue_goes M f g accepted = named (all_hold (glue_conditions M f g) accepted) where
  named : AllHold (glue_conditions M f g) → GlueGoes M f g
  named (_, (_, (f_known, (g_known, (one_solid, (rings_f, (rings_g, (lone, (bent, (twice_f, (twice_g, (matching, room)))))))))))) =
      grind (arith, eqb-false, not-true, none_is_lone M, none_found (least_lone M _) lone, none_found, numbers_are_left (taken_in M))

module _ (M : Model) (f g : ℕ) (sound : Sound M) (accepted : glue_refusal M f g ≡ None) where
  abbrev s : ℕ
  s = solid_of M f

  abbrev t : ℕ
  t = solid_of M g

  abbrev fs : List ℕ
  fs = faces_of_both M s t

  abbrev pub items_f : List ℕ
  items_f = rim M f

  abbrev pub items_g : List ℕ
  items_g = rim M g

  abbrev pub partner_of : ℕ → ℕ
  partner_of = partner M (rim M g)

  pub goes : GlueGoes M f g
  goes = glue_goes M f g accepted

  -- the faces of both solids are those looked at, and they are flat
  listed : (k : ℕ) → Has M.faces k → (solid_of M k ≡ s) ⊎ (solid_of M k ≡ t) → lists fs k ≡ true
  listed k there of = listed_as (λ _ row. nat_eq row.solid s || nat_eq row.solid t) M.faces k _ (face_there M k there) ∙ either (solid_of M k) of where
    either : (a : ℕ) → (a ≡ s) ⊎ (a ≡ t) → (nat_eq a s || nat_eq a t) ≡ true
    either a (inl e) = ap (λ b. b || nat_eq a t) (eq-eqb a s e)
    either a (inr e) = ap (λ b. nat_eq a s || b) (eq-eqb a t e) ∙ or_true (nat_eq a s)

  pub flat : (k : ℕ) → Has M.faces k → (solid_of M k ≡ s) ⊎ (solid_of M k ≡ t) → is_flat M k ≡ true
  flat k there of = not-false (is_flat M k) (none_such (λ q. not (is_flat M q)) fs goes.none_bent k (IsIn-from_listed k fs (listed k there of)))

  pub not_lone : (l : ℕ) → Has M.loops l → (solid_of M (face_of M l) ≡ s) ⊎ (solid_of M (face_of M l) ≡ t) → is_lone (content M l) ≡ false
  not_lone l has of = first_fails (is_lone (content M l)) (lists fs (face_of M l))
      (zero_first_where (λ _ row. is_lone row.content && lists fs row.face) M.loops (loop_number M sound) goes.none_lone l _ (loop_row M l has)) (listed (face_of M l) (sound.loops_of_faces l has) of)

  is_cycle : (k : ℕ) → Has M.faces k → (solid_of M k ≡ s) ⊎ (solid_of M k ≡ t) → content M (outer M k) ≡ cycle (rim M k)
  is_cycle k there of =
      let p = sound.outers_there k there in
      not_lone_cycle (content M (outer M k)) (not_lone (outer M k) p.0 (subst (λ q. (solid_of M q ≡ s) ⊎ (solid_of M q ≡ t)) (sym p.1) of))

  pub cycle_f : content M (outer M f) ≡ cycle (rim M f)
  cycle_f = is_cycle f goes.f_there (inl refl)

  pub cycle_g : content M (outer M g) ≡ cycle (rim M g)
  cycle_g = is_cycle g goes.g_there (inr refl)

  has_f : Has M.loops (outer M f)
  has_f = (sound.outers_there f goes.f_there).0

  has_g : Has M.loops (outer M g)
  has_g = (sound.outers_there g goes.g_there).0

  half_f : (h : ℕ) → IsIn h items_f → HasHalf M h
  half_f = half_l M sound (outer M f) items_f has_f cycle_f

  half_g : (h : ℕ) → IsIn h items_g → HasHalf M h
  half_g = half_l M sound (outer M g) items_g has_g cycle_g

  -- the items of g backwards, turned as those of f
  turned : (ts : List ℕ) × (map (start M) items_f ≡ map (start M) ts) × IsRotation items_g (reverse ts)
  turned = turned_list (start M) items_f items_g goes.matches

  in_g : (y : ℕ) → IsIn y turned.0 → IsIn y items_g
  in_g y i = omega (arith, i, IsRotation-same items_g (reverse turned.0) turned.2 y, count-reverse y turned.0)

  partner_is : (h y : ℕ) → IsIn y items_g → start M y ≡ finish M h → partner_of h ≡ y
  partner_is h y i e = ap (λ o. unwrap_or o 0) (such_is (λ k. same_point (start M k) (finish M h)) items_g y i (same_as (start M y) (finish M h) e)
      (λ j p q. once (start M) items_g goes.points_g j y p i (same_is (start M j) (finish M h) q ∙ sym e)))

  found : (h : ℕ) → IsIn h items_f → (y : ℕ) × IsIn y items_g × (start M y ≡ finish M h)
  found h i =
      let r = other_list (start M) items_f turned.0 turned.1 (after M h) (next_in M sound (outer M f) items_f has_f cycle_f h i) in
      (r.0, in_g r.0 r.1, r.2 ∙ next_start M sound h (half_f h i))

  partner_in : (h : ℕ) → IsIn h items_f → IsIn (partner_of h) items_g
  partner_in h i = let r = found h i in subst (λ y. IsIn y items_g) (sym (partner_is h r.0 r.1 r.2)) r.1

  pub partner_start : (h : ℕ) → IsIn h items_f → start M (partner_of h) ≡ finish M h
  partner_start h i = let r = found h i in ap (start M) (partner_is h r.0 r.1 r.2) ∙ r.2

  -- an item is told by the point at which it ends
  finish_once : (h k : ℕ) → IsIn h items_f → IsIn k items_f → finish M h ≡ finish M k → h ≡ k
  finish_once h k i j e = next_once M sound (outer M f) items_f has_f cycle_f h k i j
      (once (start M) items_f goes.points_f (after M h) (after M k) (next_in M sound (outer M f) items_f has_f cycle_f h i) (next_in M sound (outer M f) items_f has_f cycle_f k j)
      (next_start M sound h (half_f h i) ∙ e ∙ sym (next_start M sound k (half_f k j))))

  chain : (xs ys : List ℕ) (d e : ℕ) → ((x : ℕ) → IsIn x xs → IsIn x items_f) → ((y : ℕ) → IsIn y ys → IsIn y items_g) → IsIn e items_g →
      map (start M) xs ≡ map (start M) ys → start M d ≡ start M e → IsPath (after M) xs d → map partner_of xs ≡ shifted ys e
  chain [] [] d e xi yi ei same ends path = refl
  chain [] (y ∷ ys) d e xi yi ei same ends path = absurd (no_points (sym same))
  chain (x ∷ xs) [] d e xi yi ei same ends path = absurd (no_points same)
  chain (x ∷ xs) (y ∷ ys) d e xi yi ei same ends path =
      let tails = (both_points same).1 in
      let at : start M (head_or d xs) ≡ start M (head_or e ys) = same_heads (start M) xs ys d e tails ends in
      let here : IsIn (head_or e ys) items_g = head_in items_g ys e (λ z i. yi z (omega (arith, i))) ei in
      let xi_here : IsIn x items_f = xi x (omega (arith, tick_same x)) in
      (λ i. partner_is x (head_or e ys) here (sym at ∙ ap (start M) (sym path.0) ∙ next_start M sound x (half_f x xi_here)) i
      ∷ chain xs ys d e (λ z i. xi z (omega (arith, i))) (λ z i. yi z (omega (arith, i))) ei tails ends path.1 i)
      ∙ shifted_on ys e

  ring_f : IsRing (after M) items_f
  ring_f = ring_l M sound (outer M f) items_f has_f cycle_f

  some_f : items_f ≢ []
  some_f = (cycle_l M sound (outer M f) items_f has_f cycle_f).some_item

  some_turned : turned.0 ≢ []
  some_turned = some_other (start M) items_f turned.0 turned.1 some_f

  partners_are : map partner_of items_f ≡ shifted turned.0 (head_or 0 turned.0)
  partners_are = chain items_f turned.0 (head_or 0 items_f) (head_or 0 turned.0) (λ x i. i) in_g (head_in_self items_g turned.0 some_turned in_g) turned.1
      (same_heads_some (start M) items_f turned.0 turned.1 some_f) ring_f

  apart_g : IsApart items_g
  apart_g = (cycle_l M sound (outer M g) items_g has_g cycle_g).apart

  pub opposite : items_g ≡ canonical (reverse (map partner_of items_f))
  opposite =
      sym (cycle_l M sound (outer M g) items_g has_g cycle_g).from_least
      ∙ canonical_same items_g (reverse turned.0) turned.2 apart_g
      ∙ canonical_same (reverse turned.0) (reverse (map partner_of items_f)) (turned_back turned.0 (map partner_of items_f) some_turned partners_are)
      (IsApart-same items_g (reverse turned.0) (IsRotation-same items_g (reverse turned.0) turned.2) apart_g)

  -- a partner ends where its item starts
  pub partner_end : (h : ℕ) → IsIn h items_f → finish M (partner_of h) ≡ start M h
  partner_end h i =
      let ps : List ℕ = map partner_of items_f in
      let a : ℕ = partner_of h in
      let k : ℕ = predecessor items_f h in
      let j : IsIn k items_f = IsIn_predecessor h items_f i in
      let apart_f : IsApart items_f = (cycle_l M sound (outer M f) items_f has_f cycle_f).apart in
      let on : successor items_f k ≡ h = successor-predecessor h items_f apart_f i in
      let back : IsApart (reverse ps) = λ x. omega (arith, apart_g x, ap (count x) opposite, count-canonical x (reverse ps)) in
      let ai : IsIn a ps = IsIn-map partner_of h items_f i in
      let next : successor ps (partner_of k) ≡ a = successor-map partner_of k items_f
      (λ y m e. finish_once k y j m (sym (partner_start k j) ∙ ap (start M) e ∙ partner_start y m)) ∙ ap partner_of on in
      let after_a : after M a ≡ partner_of k =
      next_is_successor (after M) items_g a (ring_l M sound (outer M g) items_g has_g cycle_g) (partner_in h i)
      ∙ ap (λ q. successor q a) opposite
      ∙ sym (successor_same a (reverse ps) (canonical (reverse ps)) (canonical-rotates (reverse ps)) back (omega (arith, ai, count-reverse a ps)))
      ∙ successor-reverse a ps (λ x. omega (arith, back x, count-reverse x ps)) ai
      ∙ ap (predecessor ps) (sym next)
      ∙ predecessor-successor (partner_of k) ps (λ x. omega (arith, back x, count-reverse x ps)) (IsIn-map partner_of k items_f j) in
      sym (next_start M sound a (half_g a (partner_in h i))) ∙ ap (start M) after_a ∙ partner_start k j
      ∙ sym (next_start M sound k (half_f k j)) ∙ ap (start M) (next_is_successor (after M) items_f k ring_f j ∙ on)

  -- ---- no edge has g on both sides

  thin : (a b : ℕ) (xs : List ℕ) → IsRing (after M) (a ∷ xs) → IsApart (a ∷ xs) → after M a ≡ b → after M b ≡ a → a ≢ b → length xs ≡ 1
  thin a b [] r d p q ne = absurd (ne (sym r.0 ∙ p))
  thin a b (c ∷ []) r d p q ne = refl
  thin a b (c ∷ e ∷ xs) r d p q ne = let same : a ≡ e = sym q ∙ ap (after M) (sym p ∙ r.0) ∙ r.1.0 in absurd (grind (arith, d a, tick_same a, same))

  no_fold : (h k : ℕ) → IsIn h items_f → IsIn k items_f → mate (partner_of h) ≢ partner_of k
  no_fold h k i j e =
      let a : ℕ = partner_of h in
      let b : ℕ = partner_of k in
      let ai : IsIn a items_g = partner_in h i in
      let bi : IsIn b items_g = partner_in k j in
      let on_a : after M a ≡ b = once (start M) items_g goes.points_g (after M a) b (next_in M sound (outer M g) items_g has_g cycle_g a ai) bi (next_start M sound a (half_g a ai) ∙ ap (start M) e) in
      let on_b : after M b ≡ a = once (start M) items_g goes.points_g (after M b) a (next_in M sound (outer M g) items_g has_g cycle_g b bi) ai
      (next_start M sound b (half_g b bi) ∙ ap (start M) (ap mate (sym e) ∙ mate-mate a)) in
      let turns : IsRotation items_g (a ∷ rest a items_g) = rotation_at a items_g ai in
      let one : length (rest a items_g) ≡ 1 = thin a b (rest a items_g) (IsRing-same (after M) items_g (a ∷ rest a items_g) turns (ring_l M sound (outer M g) items_g has_g cycle_g)) (apart_at a items_g apart_g ai) on_a on_b
      (λ q. mate_other a (q ∙ sym e)) in
      never_two M sound g goes.g_there goes.ringless_g cycle_g (flat g goes.g_there (inr refl)) (IsRotation-length items_g (a ∷ rest a items_g) turns ∙ ap suc one)

  -- ---- all of it

  pub facing : Facing M f g partner_of items_f (fresh_edge M)
  unfolding taken_in
  facing = record {
    sound = sound;
    f_there = goes.f_there;
    g_there = goes.g_there;
    solids_apart = goes.solids_apart;
    alone_f = no_rings_means M f goes.ringless_f;
    alone_g = no_rings_means M g goes.ringless_g;
    first = loop_row M (outer M f) has_f ∙ (λ i. Some (record { face = (sound.outers_there f goes.f_there).1 i; content = cycle_f i }));
    second = loop_row M (outer M g) has_g ∙ (λ i. Some (record { face = (sound.outers_there g goes.g_there).1 i; content = (cycle_g ∙ ap cycle opposite) i }));
    starts_once = λ h k i j e. finish_once h k i j (sym (partner_start h i) ∙ ap (point_of M) e ∙ partner_start k j);
    ends_once = λ h k i j e. finish_once h k i j (ap (point_of M) e);
    no_fold = no_fold;
    edge_free = none_above M.edges (fresh_edge M) (omega arith);
    edge_fits = number_fits (fresh_edge M) (omega arith) goes.left.edges;
  }

  pub shape : (h : ℕ) × (mid : List ℕ) × (last : ℕ) × (items_f ≡ h ∷ (mid ++ last ∷ []))
  shape = shape_of items_f some_f (λ h e. next_other M sound (outer M f) items_f has_f cycle_f h (omega (arith, ap (count h) e, tick_same h)) ((subst (IsRing (after M)) e ring_f).0))
