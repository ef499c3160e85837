-- A cap that becomes a ring of another: the operator is accepted, and what stays.
use Rattle.split_laws.proofs.Prelude.{list_any, ◌≡◌, ◌≢◌, ℕ, true, List, [], ◌∷◌, is_some, refl, sym, ap, ◌∙◌, arith, ◌⊎◌, inl, inr, true≢false, ◌≤◌, ◌<◌, suc, false, length, None, not, get_or, zero, ◌++◌, fold, filter, nat_tests, eqb_tells, tick, count, IsIn, IsApart, mate, tables, Model, loop_of, face_of, solid_of, outer, Sound, Has, HasHalf, face_at, lists, effect, kfmrh, Kfmrh, Op, tick_same, tick_other, IsIn_or_not, mate_there, loop_sound, KillGoes, sound-kfmrh, kill_same, kill_face_l, kill_face_else, l_face, g_gone, kill_solid, kill_outer, kfmrh_accepted, Leads, leads_one, leads_none, leads_on, Caps, outer_caps, hole_closed, no_caps, IsPlain, ArePlain, cap_faces, closing_ops}
use Rattle.euler_operators.specs.Table as table
use Rattle.euler_laws.proofs.shared.Rings.{SameRings, half_back, loop-rings}

-- what parting those of the faces us that are there asks for, but for a face on either side
pub record CanPart (N : Model) (s : ℕ) (us : List ℕ) : Type 0 where
  pub sound : Sound N
  pub of_solid : (f : ℕ) → lists us f ≡ true → Has N.faces f → solid_of N f ≡ s
  pub whole : (x : ℕ) → HasHalf N x → lists us (face_at N x) ≡ lists us (face_at N (mate x))

pub solids_kept : (N : Model) (f g : ℕ) → (kfmrh N f g).solids ≡ N.solids
unfolding kfmrh
solids_kept N f g = refl

pub row_kept : (N : Model) (f g p : ℕ) → p ≢ g → table.get (kfmrh N f g).faces p ≡ table.get N.faces p
unfolding kfmrh
row_kept N f g p a = grind (arith, nat_tests, tables)

module _ (N : Model) (sound : Sound N) (f g : ℕ) (goes : KillGoes N f g) where
  abbrev K : Model
  K = kfmrh N f g

  pub kill_leads : Leads N (kfmrh N f g) (Kfmrh f g ∷ [])
  unfolding effect
  kill_leads = leads_one N K (Kfmrh f g) (kfmrh_accepted N f g sound goes) refl

  rings : SameRings N K
  rings = grind (arith, kill_same, loop_sound)

  pub face_stays : (p : ℕ) → p ≢ g → Has N.faces p → Has (kfmrh N f g).faces p
  face_stays p a t = ap is_some (row_kept N f g p a) ∙ t

  -- a half-edge stays in its face, or comes from g to f
  half_face : (x : ℕ) → HasHalf N x → (face_at K x ≡ face_at N x) ⊎ ((face_at N x ≡ g) × (face_at K x ≡ f))
  half_face x t = let same : loop_of K x ≡ loop_of N x = loop-rings N K sound rings x t in elim (eqb_tells (loop_of N x) (outer N g)) [
    | inl e ↦ inr (ap (face_of N) e.1 ∙ l_face N sound f g goes, ap (face_of K) (same ∙ e.1) ∙ kill_face_l N sound f g goes)
    | inr e ↦ inl (ap (face_of K) same ∙ kill_face_else N sound f g goes (loop_of N x) e.1)
  ]

  half_level : (us : List ℕ) → lists us f ≡ lists us g → (x : ℕ) → HasHalf N x → lists us (face_at K x) ≡ lists us (face_at N x)
  half_level us level x t = grind (arith, half_face)

  pub part_stays : (s : ℕ) (us : List ℕ) → lists us f ≡ lists us g → CanPart N s us → CanPart (kfmrh N f g) s us
  part_stays s us level w = record {
    sound = sound-kfmrh N sound f g goes;
    of_solid = λ p l t. let a : p ≢ g = (λ e. true≢false (sym t ∙ ap is_some (ap (table.get K.faces) e ∙ g_gone N sound f g goes))) in
        kill_solid N sound f g goes p a ∙ w.of_solid p l (sym (ap is_some (row_kept N f g p a)) ∙ t);
    whole = λ x t. let o : HasHalf N x = half_back N K sound rings x t in
        half_level us level x o ∙ w.whole x o ∙ sym (half_level us level (mate x) (mate_there N x o));
  }

  -- another face without rings stays such
  pub plain_stays : (s k : ℕ) → k ≢ f → k ≢ g → IsPlain N s k → IsPlain (kfmrh N f g) s k
  plain_stays s k a b w = record {
    there = face_stays k b w.there;
    of_solid = kill_solid N sound f g goes k b ∙ w.of_solid;
    no_ring = λ l t e. elim (eqb_tells l (outer N g)) [
      | inl q ↦ absurd (a (sym e ∙ ap (face_of K) q.1 ∙ kill_face_l N sound f g goes))
      | inr q ↦ w.no_ring l (sym ((kill_same N sound f g goes).loops l) ∙ t) (sym (kill_face_else N sound f g goes l q.1) ∙ e) ∙ sym (kill_outer N sound f g goes k b)
    ];
  }

  pub plains_stay : (s : ℕ) (ks : List Caps) → count f (cap_faces ks) ≡ 0 → count g (cap_faces ks) ≡ 0 → ArePlain N s ks → ArePlain (kfmrh N f g) s ks
  plains_stay s [] y z w = tt
  plains_stay s (k ∷ ks) y z w = (
    plain_stays s k.lower (λ e. absurd (omega (arith, y, tick_same f, ap (λ x. tick f x) e))) (λ e. absurd (omega (arith, z, tick_same g, ap (λ x. tick g x) e))) w.0,
    plain_stays s k.upper (λ e. absurd (omega (arith, y, tick_same f, ap (λ x. tick f x) e))) (λ e. absurd (omega (arith, z, tick_same g, ap (λ x. tick g x) e))) w.1,
    plains_stay s ks (omega (arith, y)) (omega (arith, z)) w.2,
  )

-- ---- the caps of the holes become rings of the outer cycle's caps

-- of each caps the one above is listed and the one below isn't
abbrev pub AreLevel : List ℕ → List Caps → Type 0
AreLevel us [] = Unit {0}
AreLevel us (k ∷ ks) = (lists us k.lower ≡ false) × (lists us k.upper ≡ true) × AreLevel us ks

-- f is a face of solid s
pub record IsOf (N : Model) (s f : ℕ) : Type 0 where
  pub there : Has N.faces f
  pub of_solid : solid_of N f ≡ s

-- the caps ks can become rings of the caps o
pub record CanClose (N : Model) (s : ℕ) (us : List ℕ) (o : Caps) (ks : List Caps) : Type 0 where
  pub part : CanPart N s us
  pub lower : IsOf N s o.lower
  pub upper : IsOf N s o.upper
  pub plain : ArePlain N s ks
  pub apart : IsApart (cap_faces (o ∷ ks))
  pub level : AreLevel us (o ∷ ks)

-- then they have, and other faces stay
pub record AreClosed (N K : Model) (s : ℕ) (us : List ℕ) (ops : List Op) (ks : List Caps) : Type 0 where
  pub leads : Leads N K ops
  pub part : CanPart K s us
  pub solids : K.solids ≡ N.solids
  pub rows : (q : ℕ) → count q (cap_faces ks) ≡ 0 → table.get K.faces q ≡ table.get N.faces q
  pub gone : (q : ℕ) → IsIn q (cap_faces ks) → table.get K.faces q ≡ None

pub none_closed : (N : Model) (s : ℕ) (us : List ℕ) → CanPart N s us → AreClosed N N s us [] []
none_closed N s us w = record { leads = leads_none N; part = w; solids = refl; rows = λ q z. refl; gone = λ q i. absurd (omega (arith, i)) }

-- the first of some items that lie apart is none of the others
first_other : (x y : ℕ) (xs : List ℕ) → IsApart (x ∷ xs) → IsIn y xs → x ≢ y
first_other x y xs a i e = absurd (omega (arith, a y, i, ap (λ z. tick y z) e, tick_same y))

of_stays : (N : Model) (sound : Sound N) (s f g p : ℕ) → KillGoes N f g → p ≢ g → IsOf N s p → IsOf (kfmrh N f g) s p
of_stays N sound s f g p goes a w = record { there = face_stays N sound f g goes p a w.there; of_solid = kill_solid N sound f g goes p a ∙ w.of_solid }

can_kill : (N : Model) (s f g : ℕ) → f ≢ g → IsOf N s f → IsPlain N s g → KillGoes N f g
can_kill N s f g a w v = grind arith

-- one hole
module _ (N : Model) (s : ℕ) (us : List ℕ) (o k : Caps) (ks : List Caps) (w : CanClose N s us o (k ∷ ks)) where
  abbrev first : Model
  first = kfmrh N o.lower k.lower

  abbrev next : Model
  next = hole_closed o N k

  low_apart : o.lower ≢ k.lower
  low_apart = first_other o.lower k.lower (o.upper ∷ cap_faces (k ∷ ks)) w.apart (omega (arith, tick_same k.lower))

  low_up : o.upper ≢ k.lower
  low_up = first_other o.upper k.lower (cap_faces (k ∷ ks)) (λ x. omega (arith, w.apart x)) (omega (arith, tick_same k.lower))

  up_apart : o.upper ≢ k.upper
  up_apart = first_other o.upper k.upper (cap_faces (k ∷ ks)) (λ x. omega (arith, w.apart x)) (omega (arith, tick_same k.upper))

  up_low : o.lower ≢ k.upper
  up_low = first_other o.lower k.upper (o.upper ∷ cap_faces (k ∷ ks)) w.apart (omega (arith, tick_same k.upper))

  own_apart : k.lower ≢ k.upper
  own_apart = first_other k.lower k.upper (k.upper ∷ cap_faces ks) (λ x. omega (arith, w.apart x)) (omega (arith, tick_same k.upper))

  goes_low : KillGoes N o.lower k.lower
  goes_low = can_kill N s o.lower k.lower low_apart w.lower w.plain.0

  part_low : CanPart first s us
  part_low = part_stays N w.part.sound o.lower k.lower goes_low s us (w.level.0 ∙ sym w.level.2.0) w.part

  plain_up : IsPlain first s k.upper
  plain_up = plain_stays N w.part.sound o.lower k.lower goes_low s k.upper (λ e. up_low (sym e)) (λ e. own_apart (sym e)) w.plain.1

  goes_up : KillGoes first o.upper k.upper
  goes_up = can_kill first s o.upper k.upper up_apart (of_stays N w.part.sound s o.lower k.lower o.upper goes_low low_up w.upper) plain_up

  pub one_leads : Leads N (hole_closed o N k) (Kfmrh o.lower k.lower ∷ Kfmrh o.upper k.upper ∷ [])
  one_leads = leads_on N first next (Kfmrh o.lower k.lower ∷ []) (Kfmrh o.upper k.upper ∷ [])
      (kill_leads N w.part.sound o.lower k.lower goes_low) (kill_leads first part_low.sound o.upper k.upper goes_up)

  pub others_can : CanClose (hole_closed o N k) s us o ks
  others_can = record {
    part = part_stays first part_low.sound o.upper k.upper goes_up s us (w.level.1 ∙ sym w.level.2.1) part_low;
    lower = of_stays first part_low.sound s o.upper k.upper o.lower goes_up up_low (of_stays N w.part.sound s o.lower k.lower o.lower goes_low low_apart w.lower);
    upper = of_stays first part_low.sound s o.upper k.upper o.upper goes_up up_apart (of_stays N w.part.sound s o.lower k.lower o.upper goes_low low_up w.upper);
    plain = plains_stay first part_low.sound o.upper k.upper goes_up s ks (omega (arith, w.apart o.upper, tick_same o.upper)) (omega (arith, w.apart k.upper, tick_same k.upper))
        (plains_stay N w.part.sound o.lower k.lower goes_low s ks (omega (arith, w.apart o.lower, tick_same o.lower)) (omega (arith, w.apart k.lower, tick_same k.lower)) w.plain.2);
    apart = λ x. omega (arith, w.apart x);
    level = (w.level.0, w.level.1, w.level.2.2);
  }

  pub one_solids : (hole_closed o N k).solids ≡ N.solids
  one_solids = solids_kept first o.upper k.upper ∙ solids_kept N o.lower k.lower

  pub one_rows : (q : ℕ) → count q (cap_faces (k ∷ ks)) ≡ 0 → table.get (hole_closed o N k).faces q ≡ table.get N.faces q
  one_rows q z = row_kept first o.upper k.upper q (λ e. absurd (omega (arith, z, tick_same q, ap (λ x. tick q x) e)))
      ∙ row_kept N o.lower k.lower q (λ e. absurd (omega (arith, z, tick_same q, ap (λ x. tick q x) e)))

  -- the caps of the hole are gone
  pub one_gone : (q : ℕ) → IsIn q (cap_faces (k ∷ ks)) → count q (cap_faces ks) ≡ 0 → table.get (hole_closed o N k).faces q ≡ None
  one_gone q i z = elim (eqb_tells q k.lower) [
    | inl e ↦ ap (table.get next.faces) e.1 ∙ row_kept first o.upper k.upper k.lower own_apart ∙ g_gone N w.part.sound o.lower k.lower goes_low
    | inr e ↦ elim (eqb_tells q k.upper) [
      | inl e ↦ ap (table.get next.faces) e.1 ∙ g_gone first part_low.sound o.upper k.upper goes_up
      | inr f ↦ absurd (omega (arith, i, z, tick_other q k.lower e.1, tick_other q k.upper f.1))
    ]
  ]

-- all of them
pub all_close : (N : Model) (s : ℕ) (us : List ℕ) (o : Caps) (ks : List Caps) → CanClose N s us o ks → AreClosed N (fold (hole_closed o) N ks) s us (closing_ops o ks) ks
all_close N s us o [] w = none_closed N s us w.part
all_close N s us o (k ∷ ks) w =
    let next : Model = hole_closed o N k in
    let r : AreClosed next (fold (hole_closed o) next ks) s us (closing_ops o ks) ks = all_close next s us o ks (others_can N s us o k ks w) in
    record {
      leads = leads_on N next (fold (hole_closed o) next ks) (Kfmrh o.lower k.lower ∷ Kfmrh o.upper k.upper ∷ []) (closing_ops o ks) (one_leads N s us o k ks w) r.leads;
      part = r.part;
      solids = r.solids ∙ one_solids N s us o k ks w;
      rows = λ q z. r.rows q (omega (arith, z)) ∙ one_rows N s us o k ks w q z;
      gone = λ q i. elim (IsIn_or_not q (cap_faces ks)) [
        | inl j ↦ r.gone q j
        | inr z ↦ r.rows q z ∙ one_gone N s us o k ks w q i z
      ];
    }

-- ---- the outer cycle's caps and those of the holes, among all

-- where not all caps are those of holes, some are not
pub some_other : (ks : List Caps) → length (filter (λ k. k.hole) ks) < length ks → list_any (λ k. not k.hole) ks ≡ true
some_other [] l = absurd (omega (arith, l))
some_other (k ∷ ks) l = grind (arith, some_other ks)

-- what is said of some caps says one thing of each
pub record IsOfEach (All : List Caps → Type 0) (One : Caps → Type 0) : Type 0 where
  pub one : (k : Caps) (ks : List Caps) → All (k ∷ ks) → One k
  pub others : (k : Caps) (ks : List Caps) → All (k ∷ ks) → All ks
  pub both : (k : Caps) (ks : List Caps) → One k → All ks → All (k ∷ ks)

module _ (All : List Caps → Type 0) (One : Caps → Type 0) (each : IsOfEach All One) where
  pub holes_each : (ks : List Caps) → All ks → All (filter (λ k. k.hole) ks)
  holes_each [] a = a
  holes_each (k ∷ ks) a = grind (arith, holes_each ks (each.others k ks a))

  pub outer_each : (ks : List Caps) → All ks → list_any (λ k. not k.hole) ks ≡ true → One (outer_caps ks)
  outer_each [] a e = absurd (true≢false (sym e))
  outer_each (k ∷ ks) a e = grind (arith, outer_each ks (each.others k ks a))

  pub each_at : (ks : List Caps) (i : ℕ) → i < length ks → All ks → One (get_or ks i no_caps)
  each_at [] i l a = absurd (omega (arith, l))
  each_at (k ∷ ks) zero l a = each.one k ks a
  each_at (k ∷ ks) (suc i) l a = each_at ks i (omega (arith, l)) (each.others k ks a)

  pub each_last : (ks : List Caps) (k : Caps) → All ks → All (k ∷ []) → All (ks ++ k ∷ [])
  each_last [] k a o = o
  each_last (j ∷ ks) k a o = each.both j (ks ++ k ∷ []) (each.one j ks a) (each_last ks k (each.others j ks a) o)

pub level_each : (us : List ℕ) → IsOfEach (AreLevel us) (λ k. (lists us k.lower ≡ false) × (lists us k.upper ≡ true))
level_each us = record { one = λ k ks a. (a.0, a.1); others = λ k ks a. a.2; both = λ k ks o a. (o.0, o.1, a) }

pub plain_each : (N : Model) (s : ℕ) → IsOfEach (ArePlain N s) (λ k. IsPlain N s k.lower × IsPlain N s k.upper)
plain_each N s = record { one = λ k ks a. (a.0, a.1); others = λ k ks a. a.2; both = λ k ks o a. (o.0, o.1, a) }

plain_of : (N : Model) (s f : ℕ) → IsPlain N s f → IsOf N s f
plain_of N s f w = record { there = w.there; of_solid = w.of_solid }

pub holes_counted : (x : ℕ) (ks : List Caps) → count x (cap_faces (filter (λ k. k.hole) ks)) ≤ count x (cap_faces ks)
holes_counted x [] = omega arith
holes_counted x (k ∷ ks) = grind (arith, holes_counted x ks)

pub outer_counted : (x : ℕ) (ks : List Caps) → list_any (λ k. not k.hole) ks ≡ true → count x (cap_faces (outer_caps ks ∷ filter (λ k. k.hole) ks)) ≤ count x (cap_faces ks)
outer_counted x [] e = absurd (true≢false (sym e))
outer_counted x (k ∷ ks) e = grind (arith, holes_counted, outer_counted x ks)

-- where some caps are no hole's, those of the holes can become rings
pub can_close : (N : Model) (s : ℕ) (us : List ℕ) (ks : List Caps) → CanPart N s us → ArePlain N s ks → IsApart (cap_faces ks) → AreLevel us ks → length (filter (λ k. k.hole) ks) < length ks →
    CanClose N s us (outer_caps ks) (filter (λ k. k.hole) ks)
can_close N s us ks part plain apart level l =
    let some = some_other ks l in
    let o = outer_each (ArePlain N s) _ (plain_each N s) ks plain some in
    let v = outer_each (AreLevel us) _ (level_each us) ks level some in
    record {
      part = part;
      lower = plain_of N s (outer_caps ks).lower o.0;
      upper = plain_of N s (outer_caps ks).upper o.1;
      plain = holes_each (ArePlain N s) _ (plain_each N s) ks plain;
      apart = λ x. omega (arith, apart x, outer_counted x ks some);
      level = (v.0, v.1, holes_each (AreLevel us) _ (level_each us) ks level);
    }
