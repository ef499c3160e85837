-- Word on which cycles are holes, cycle by cycle.
use Rattle.split_sections.proofs.Prelude.{◌≡◌, ◌+◌, ◌≤◌, Bool, true, cond, not, ◌&&◌, nat_eq, nat_lt, List, [], ◌∷◌, map, length, refl, sym, ap, arith, filter, Plane, Model, is_hole, has_stray_hole, has_stray, Cycle}
use Rattle.split_sections.specs.Common.{halves_of}

module _ (M : Model) (p : Plane) where
  -- as many are told as holes as are
  as_many : (cs : List Cycle) → map (λ c. c.hole) cs ≡ map (is_hole M p) (map halves_of cs) → length (filter (λ (c : Cycle). c.hole) cs) ≡ length (filter (is_hole M p) (map halves_of cs))
  as_many [] e = refl
  as_many (c ∷ cs) e = same_flag_same_count c.hole (is_hole M p (halves_of c)) (ap first e) (as_many cs (ap others e)) where
    first : List Bool → Bool
    first [] = true
    first (b ∷ bs) = b

    others : List Bool → List Bool
    others [] = []
    others (b ∷ bs) = bs

    same_flag_same_count : (a b : Bool) → a ≡ b → length (filter (λ (c : Cycle). c.hole) cs) ≡ length (filter (is_hole M p) (map halves_of cs))
        → length (cond a (c ∷ filter (λ (c : Cycle). c.hole) cs) (filter (λ (c : Cycle). c.hole) cs)) ≡ length (cond b (halves_of c ∷ filter (is_hole M p) (map halves_of cs)) (filter (is_hole M p) (map halves_of cs)))
    same_flag_same_count a b s r = grind arith

  same_length : (cs : List Cycle) → length (map halves_of cs) ≡ length cs
  same_length [] = refl
  same_length (c ∷ cs) = omega (arith, same_length cs)

  pub stray_is : (cs : List Cycle) → map (λ c. c.hole) cs ≡ map (is_hole M p) (map halves_of cs) → has_stray cs ≡ has_stray_hole M p (map halves_of cs)
  stray_is cs e = λ i. nat_lt 0 (as_many cs e i) && not (nat_eq (sym (same_length cs) i) (as_many cs e i + 1))

-- no more are holes than there are
pub few_holes : (cs : List Cycle) → length (filter (λ (c : Cycle). c.hole) cs) ≤ length cs
few_holes [] = omega arith
few_holes (c ∷ cs) = grind (arith, few_holes cs)
