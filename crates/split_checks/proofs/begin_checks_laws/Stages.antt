-- The conditions with which a split begins, part by part.
use Rattle.split_checks.proofs.Prelude.{list_any, ◌≡◌, ℕ, ◌+◌, true, false, cond, ◌&&◌, nat_le, List, [], ◌∷◌, ◌++◌, length, Option, Some, None, Result, Ok, Err, IfOk, IfErr, IfSome, OnErr, refl, sym, ap, subst, ◌∙◌, arith, min, nat_tests, Plane, IsCutPlane, Model, faces_of, Condition, need, first_refusal, verdict, Refusal, all_hold, verdict_passed, verdict_failed, first_refusal-append, first_refusal-front, first_refusal-refused, Taken, taken_in, numbers_left, no_such, first_such, is_touched, is_cut_often, is_crossed, pair_count, reaches_above, reaches_below, straddling_faces, crossing_edges, number_conditions, plane_in_range, faces_are_flat, early_split_conditions, straddling_conditions, cut_conditions, sectioning_conditions, first_conditions, early_refusal, HasFlatFaces, is_off}
use Rattle.euler_operators.specs.declared.Why.TheVariants.{PlaneMisses, NotLattice, NumbersSpent, TouchedFace, CutOften, CutCrossed}
use Rattle.shapes.proofs.split.Facts.{plane_within}

-- what holds of the value of a result, and of its error
pub at_ok : {X E : Type 0} (r : Result X E) (x : X) (P : X → Type 0) → r ≡ Ok x → IfOk r P → P x
at_ok r x P e h = subst (λ y. IfOk y P) e h

pub at_err : {X E : Type 0} (r : Result X E) (x : E) (P : E → Type 0) → r ≡ Err x → IfErr r P → P x
at_err r x P e h = subst (λ y. IfErr y P) e h

-- what is so whatever the result
pub on_any : {X E P : Type 0} (r : Result X E) → P → OnErr r P
on_any (Ok x) h = tt
on_any (Err e) h = h

-- ---- faces

module _ (M : Model) (p : Plane) (fs : List ℕ) where
  by_flaws : (a b c : Option ℕ) → a ≡ first_such (is_touched M p) fs → b ≡ first_such (is_cut_often M p) fs → c ≡ first_such (is_crossed M p) fs
      → first_refusal (straddling_conditions M p fs) ≡ first_refusal (no_such a TouchedFace ∷ no_such b CutOften ∷ no_such c CutCrossed ∷ [])
  by_flaws a b c e f g = sym (λ i. first_refusal (no_such (e i) TouchedFace ∷ no_such (f i) CutOften ∷ no_such (g i) CutCrossed ∷ []))

  pub touched_refused : (f : ℕ) → Some f ≡ first_such (is_touched M p) fs → first_refusal (straddling_conditions M p fs) ≡ Some (record { why = TouchedFace; number = f })
  touched_refused f e = by_flaws (Some f) (first_such (is_cut_often M p) fs) (first_such (is_crossed M p) fs) e refl refl

  pub often_refused : (f : ℕ) → None ≡ first_such (is_touched M p) fs → Some f ≡ first_such (is_cut_often M p) fs → first_refusal (straddling_conditions M p fs) ≡ Some (record { why = CutOften; number = f })
  often_refused f e o = by_flaws None (Some f) (first_such (is_crossed M p) fs) e o refl

  module _ (untouched : None ≡ first_such (is_touched M p) fs) (seldom : None ≡ first_such (is_cut_often M p) fs) where
    pub crossed_refused : (f : ℕ) → first_such (is_crossed M p) fs ≡ Some f → first_refusal (straddling_conditions M p fs) ≡ Some (record { why = CutCrossed; number = f })
    crossed_refused f e = by_flaws None None (Some f) untouched seldom (sym e)

    pub none_refused : first_such (is_crossed M p) fs ≡ None → first_refusal (straddling_conditions M p fs) ≡ None
    none_refused e = by_flaws None None None untouched seldom (sym e)

-- ---- numbers that are left, told up to a limit

capped : (a n : ℕ) → nat_le (a + min n 1000001) 1000000 ≡ nat_le (a + n) 1000000
capped a n = grind (arith, nat_tests)

both_capped : (a m n : ℕ) → nat_le (a + (min m 1000001 + min n 1000001)) 1000000 ≡ nat_le (a + (m + n)) 1000000
both_capped a m n = grind (arith, nat_tests)

numbers_capped : (c : Taken) (m n : ℕ) → first_refusal (numbers_left c (record { faces = min n 1000001; loops = min n 1000001; edges = min m 1000001 + min n 1000001; vertices = min m 1000001 })) ≡ first_refusal (numbers_left c (record { faces = n; loops = n; edges = m + n; vertices = m }))
numbers_capped c m n = λ i. first_refusal (need (capped c.face n i) NumbersSpent 2 ∷ need (capped c.loop n i) NumbersSpent 3 ∷ need (both_capped c.edge m n i) NumbersSpent 4 ∷ need (capped c.vertex m i) NumbersSpent 5 ∷ [])

-- ---- the section

module _ (M : Model) (s : ℕ) (p : Plane) where
  abbrev es : List ℕ
  es = crossing_edges M p s

  abbrev fs : List ℕ
  fs = straddling_faces M p s

  abbrev numbers : List Condition
  numbers = numbers_left (taken_in M) (record { faces = pair_count M p fs; loops = pair_count M p fs; edges = length es + pair_count M p fs; vertices = length es })

  abbrev cutting : List Condition
  cutting = cut_conditions M p es fs

  -- the plane meets the solid, or not
  pub met_decides : list_any (reaches_above M p) (faces_of M s) && list_any (reaches_below M p) (faces_of M s) ≡ true → first_refusal cutting ≡ first_refusal (sectioning_conditions M s p)
  met_decides met = sym (ap (λ b. cond b (first_refusal cutting) (Some (record { why = PlaneMisses; number = s }))) met)

  pub missed : list_any (reaches_above M p) (faces_of M s) && list_any (reaches_below M p) (faces_of M s) ≡ false → first_refusal (sectioning_conditions M s p) ≡ Some (record { why = PlaneMisses; number = s })
  missed off = ap (λ b. cond b (first_refusal cutting) (Some (record { why = PlaneMisses; number = s }))) off

  pub edges_refused : (e : ℕ) → first_such (is_off M p) es ≡ Some e → first_refusal cutting ≡ Some (record { why = NotLattice; number = e })
  edges_refused e off = ap (λ o. first_refusal (no_such o NotLattice ∷ straddling_conditions M p fs ++ numbers)) off

  module _ (whole : None ≡ first_such (is_off M p) es) where
    after_edges : first_refusal cutting ≡ first_refusal (straddling_conditions M p fs ++ numbers)
    after_edges = ap (λ o. first_refusal (no_such o NotLattice ∷ straddling_conditions M p fs ++ numbers)) (sym whole)

    pub faces_refused : (r : Refusal) → first_refusal (straddling_conditions M p fs) ≡ Some r → first_refusal cutting ≡ Some r
    faces_refused r e = after_edges ∙ first_refusal-refused (straddling_conditions M p fs) numbers r e

    pub numbers_decide : first_refusal (straddling_conditions M p fs) ≡ None → (m n : ℕ) → m ≡ min (length es) 1000001 → n ≡ min (pair_count M p fs) 1000001
        → first_refusal (numbers_left (taken_in M) (record { faces = n; loops = n; edges = m + n; vertices = m })) ≡ first_refusal cutting
    numbers_decide e m n is_m is_n = grind (arith, numbers_capped, first_refusal-append, after_edges)

-- ---- the whole

module _ (M : Model) (s : ℕ) (p : Plane) (t : ℕ) where
  -- where no condition is false that is tested before anything is changed, none is that is tested before memory is asked for
  pub none_early : first_refusal (first_conditions M s p t) ≡ None → early_refusal M s p t ≡ None
  unfolding first_conditions
  none_early = first_refusal-front (early_split_conditions M s p t) (sectioning_conditions M s p)

  early_refused : (r : Refusal) → early_refusal M s p t ≡ Some r → first_refusal (first_conditions M s p t) ≡ Some r
  unfolding first_conditions
  early_refused = first_refusal-refused (early_split_conditions M s p t) (sectioning_conditions M s p)

  pub cut_plane : (u : Unit {0}) → Ok u ≡ verdict (first_refusal (plane_in_range p)) → IsCutPlane p
  cut_plane u e = plane_within p (all_hold (plane_in_range p) (verdict_passed _ u e))

  pub numbers_refused : (r : Refusal) → Err r ≡ verdict (first_refusal (number_conditions M s t)) → first_refusal (first_conditions M s p t) ≡ Some r
  unfolding early_split_conditions
  numbers_refused r e = early_refused r (first_refusal-refused (number_conditions M s t) (plane_in_range p ++ faces_are_flat M (faces_of M s)) r (verdict_failed _ r e))

  module _ (u : Unit {0}) (known : Ok u ≡ verdict (first_refusal (number_conditions M s t))) where
    after_numbers : first_refusal (plane_in_range p ++ faces_are_flat M (faces_of M s)) ≡ early_refusal M s p t
    unfolding early_split_conditions
    after_numbers = sym (first_refusal-append (number_conditions M s t) (plane_in_range p ++ faces_are_flat M (faces_of M s)) (verdict_passed _ u known))

    pub range_refused : (r : Refusal) → Err r ≡ verdict (first_refusal (plane_in_range p)) → first_refusal (first_conditions M s p t) ≡ Some r
    range_refused r e = early_refused r (sym after_numbers ∙ first_refusal-refused (plane_in_range p) (faces_are_flat M (faces_of M s)) r (verdict_failed _ r e))

    module _ (v : Unit {0}) (range : Ok v ≡ verdict (first_refusal (plane_in_range p))) where
      after_range : first_refusal (faces_are_flat M (faces_of M s)) ≡ early_refusal M s p t
      after_range = sym (first_refusal-append (plane_in_range p) (faces_are_flat M (faces_of M s)) (verdict_passed _ v range)) ∙ after_numbers

      pub solid_refused : (r : Refusal) → Err r ≡ verdict (first_refusal (faces_are_flat M (faces_of M s))) → first_refusal (first_conditions M s p t) ≡ Some r
      solid_refused r e = early_refused r (sym after_range ∙ verdict_failed _ r e)

      pub early_passed : (w : Unit {0}) → Ok w ≡ verdict (first_refusal (faces_are_flat M (faces_of M s))) → early_refusal M s p t ≡ None
      early_passed w solid = sym after_range ∙ verdict_passed _ w solid

      pub section_decides : (w : Unit {0}) → Ok w ≡ verdict (first_refusal (faces_are_flat M (faces_of M s))) → first_refusal (sectioning_conditions M s p) ≡ first_refusal (first_conditions M s p t)
      unfolding first_conditions
      section_decides w solid = sym (first_refusal-append (early_split_conditions M s p t) (sectioning_conditions M s p) (early_passed w solid))

-- the solid that is known to have only flat faces is this one
pub known_flat : (M : Model) (flat : Option ℕ) (u s : ℕ) → IfSome flat (HasFlatFaces M) → flat ≡ Some u → u ≡ s → HasFlatFaces M s
known_flat M flat u s known is same = subst (HasFlatFaces M) same (subst (λ o. IfSome o (HasFlatFaces M)) is known)
