-- The faces above a plane, and the below halves and cycles along them.
use Rattle.split_sections.proofs.Prelude.{◌≡◌, ℕ, ◌≤◌, Bool, true, nat_eq, List, [], ◌∷◌, length, map, refl, ap, ◌∙◌, arith, eqb-true, filter, unwrap_or, Plane, least, Model, solid_of, faces_of, no_face, Sound, strictly_rises, count-filter, all_where-rises, IsIn-from_listed, all_where_has, face_is_above, faces_above, below_halves, cycle_from, section_cycles, AreOf, halves_apart, halves_are, AreThere, halves_short}
use Rattle.split_opening_laws.proofs.cycles.RisingLists.{filter_rises}

as_long : (f : ℕ → List ℕ) (bs : List ℕ) → length (map f bs) ≡ length bs
as_long f [] = refl
as_long f (b ∷ bs) = omega (arith, as_long f bs)

fewer : (q : ℕ → Bool) (bs : List ℕ) → length (filter q bs) ≤ length bs
fewer q [] = omega arith
fewer q (b ∷ bs) = grind (arith, fewer q bs)

shorter : (f : ℕ → List ℕ) (q : ℕ → Bool) (bs : List ℕ) (m : ℕ) → length bs ≤ m → length (map f (filter q bs)) ≤ m
shorter f q bs m l = omega (arith, l, as_long f (filter q bs), fewer q bs)

module _ (M : Model) (sound : Sound M) (s : ℕ) (p : Plane) where
  pub above_rises : strictly_rises (faces_above M p s) ≡ true
  above_rises = filter_rises (face_is_above M p) (faces_of M s) (all_where-rises (λ _ row. nat_eq row.solid s) M.faces)

  pub above_of : AreOf M (faces_above M p s) s
  unfolding solid_of
  above_of f l =
      let w = all_where_has (λ _ row. nat_eq row.solid s) M.faces f (omega (arith, IsIn-from_listed f (faces_above M p s) l, count-filter (face_is_above M p) f (faces_of M s))) in
      ap (λ o. (unwrap_or o no_face).solid) w.1 ∙ eqb-true w.0.solid s w.2

module _ (M : Model) (sound : Sound M) (above : List ℕ) (s : ℕ) (faces : AreOf M above s) where
  pub halves_there : AreThere M (below_halves M above s)
  halves_there b i = (halves_are M above s sound b i).there

  pub few_halves : length (below_halves M above s) ≤ 2000002
  few_halves = halves_short M sound (below_halves M above s) (record { apart = halves_apart M above s sound; there = halves_there })

  pub few_cycles : length (section_cycles M (below_halves M above s)) ≤ 2000002
  unfolding section_cycles
  few_cycles = shorter (cycle_from M (below_halves M above s)) (λ b. nat_eq (least (cycle_from M (below_halves M above s) b)) b) (below_halves M above s) 2000002 few_halves
