-- What the conditions of a section come to, from the half-edges and cycles that were found.
use Rattle.split_sections.proofs.Prelude.{◌≡◌, ℕ, ◌+◌, ◌*◌, ◌≤◌, Bool, true, false, List, map, length, vec_len, Vec, Global, Option, Some, None, sym, ap, subst, ◌∙◌, arith, length-map, Plane, HalfEdge, code, Model, Sound, first_refusal, strictly_rises, BranchedVertex, SectionHoles, Taken, numbers_left, below_halves, section_ends, least_branched, next_below, section_cycles, is_hole, has_stray_hole, section_conditions, Permutes, AreOf, IsUnbranched, halves_rise, starts_are_ends, AreCyclesOf, has_stray, AreBalanced, Cycle}
use Rattle.split_opening_laws.proofs.cycles.NextBelow.{permutes}
use Rattle.split_sections.specs.Common.{AreThere, halves_of}
use Rattle.split_sections.proofs.section_checks_laws.Above.{halves_there, few_halves, few_cycles}
use Rattle.split_sections.proofs.section_checks_laws.HoleFlags.{stray_is}
use Rattle.split_sections.proofs.section_checks_laws.Stages.{branched, stray, to_numbers}

module _ (M : Model) (sound : Sound M) (above : List ℕ) (s : ℕ) (faces : AreOf M above s) (halves : Vec HalfEdge Global) (met : map code halves.items ≡ below_halves M above s)
    (hs : List HalfEdge) (value : hs ≡ halves.items) where
  halves_met : map code hs ≡ below_halves M above s
  halves_met = ap (λ (gs : List HalfEdge). map code gs) value ∙ met

  pub there_now : AreThere M (map code hs)
  there_now = subst (AreThere M) (sym halves_met) (halves_there M sound above s faces)

  pub rising_now : strictly_rises (map code hs) ≡ true
  rising_now = ap strictly_rises halves_met ∙ halves_rise M above s sound

  as_many : length (below_halves M above s) ≡ vec_len halves
  as_many = sym (ap (λ (bs : List ℕ). length bs) met) ∙ length-map halves.items code ∙ omega (arith, halves.ok.0)

  pub few_now : vec_len halves ≤ 2000002
  few_now = omega (arith, few_halves M sound above s faces, as_many)

  -- what a search for a branched vertex has found
  module _ (o : Option ℕ) (searched : AreBalanced M (map code hs) → o ≡ least_branched M (section_ends M (map code hs))) where
    found : o ≡ least_branched M (section_ends M (below_halves M above s))
    found = searched (subst (AreBalanced M) (sym halves_met) (starts_are_ends M above s sound faces)) ∙ ap (λ bs. least_branched M (section_ends M bs)) halves_met

    pub branched_now : (p : Plane) (c : Taken) (v : ℕ) → o ≡ Some v → first_refusal (section_conditions M s p c (below_halves M above s)) ≡ Some (record { why = BranchedVertex; number = v })
    branched_now p c v is = branched M s p c (below_halves M above s) v (sym is ∙ found)

    module _ (none : o ≡ None) where
      unbranched : IsUnbranched M (below_halves M above s)
      unbranched = sym found ∙ none

      pub next_now : Permutes (next_below M (map code hs)) (map code hs)
      next_now = subst (λ bs. Permutes (next_below M bs) bs) (sym halves_met) (permutes M above s sound faces unbranched)

      module _ (p : Plane) (told : Vec Cycle Global) (h : map halves_of told.items ≡ section_cycles M (map code hs)) (w : map (λ c. c.hole) told.items ≡ map (is_hole M p) (map halves_of told.items)) where
        cycles_are : map halves_of told.items ≡ section_cycles M (below_halves M above s)
        cycles_are = h ∙ ap (section_cycles M) halves_met

        pub all_now : AreCyclesOf M p (below_halves M above s) told.items
        all_now = record { cycles = cycles_are; holes = w }

        as_long : length (section_cycles M (below_halves M above s)) ≡ vec_len told
        as_long = sym (ap (λ (ks : List (List ℕ)). length ks) cycles_are) ∙ length-map told.items halves_of ∙ omega (arith, told.ok.0)

        pub few_told : vec_len told ≤ 2000002
        few_told = omega (arith, few_cycles M sound above s faces, as_long)

        pub few_listed : (cs : List Cycle) → cs ≡ told.items → length cs ≤ 2000002
        few_listed cs are = omega (arith, few_told, told.ok.0, ap (λ (ks : List Cycle). length ks) are)

        -- whether a hole is found to be stray
        module _ (c : Taken) (cs : List Cycle) (are : cs ≡ told.items) (b : Bool) (tested : b ≡ has_stray cs) where
          stray_told : has_stray_hole M p (section_cycles M (below_halves M above s)) ≡ b
          stray_told = sym (tested ∙ ap (λ (ks : List Cycle). has_stray ks) are ∙ stray_is M p told.items w ∙ ap (has_stray_hole M p) cycles_are)

          pub stray_now : b ≡ true → first_refusal (section_conditions M s p c (below_halves M above s)) ≡ Some (record { why = SectionHoles; number = s })
          stray_now t = stray M s p c (below_halves M above s) unbranched (stray_told ∙ t)

          pub numbers_now : b ≡ false → (m n : ℕ) → m ≡ vec_len halves → n ≡ vec_len told
              → first_refusal (section_conditions M s p c (below_halves M above s)) ≡ first_refusal (numbers_left c (record { faces = m + n; loops = m + n; edges = 2 * m; vertices = m }))
          numbers_now t m n em en = grind (arith, as_many, as_long, to_numbers, unbranched, stray_told)
