-- The conditions of a section, part by part.
use Rattle.split_sections.proofs.Prelude.{◌≡◌, ℕ, ◌+◌, ◌*◌, true, false, cond, not, List, ◌∷◌, length, Option, Some, None, Result, Ok, Err, refl, sym, ap, ◌∙◌, arith, Plane, Model, first_refusal, Refusal, BranchedVertex, SectionHoles, Taken, numbers_left, no_such, section_ends, least_branched, section_cycles, has_stray_hole, cycle_conditions, section_conditions}

module _ (M : Model) (s : ℕ) (p : Plane) (c : Taken) (bs : List ℕ) where
  abbrev numbers : Option Refusal
  numbers = first_refusal (numbers_left c (record { faces = length bs + length (section_cycles M bs); loops = length bs + length (section_cycles M bs); edges = 2 * length bs; vertices = length bs }))

  abbrev cycles : Option Refusal
  cycles = cond (not (has_stray_hole M p (section_cycles M bs))) numbers (Some (record { why = SectionHoles; number = s }))

  -- what is refused where the search for a branched vertex has this answer
  abbrev refused_at : Option ℕ → Option Refusal
  refused_at o = first_refusal (no_such o BranchedVertex ∷ cycle_conditions M s p c (length bs) (section_cycles M bs))

  whole : first_refusal (section_conditions M s p c bs) ≡ refused_at (least_branched M (section_ends M bs))
  unfolding section_conditions
  whole = refl

  pub branched : (v : ℕ) → Some v ≡ least_branched M (section_ends M bs) → first_refusal (section_conditions M s p c bs) ≡ Some (record { why = BranchedVertex; number = v })
  branched v e = whole ∙ ap refused_at (sym e)

  module _ (none : least_branched M (section_ends M bs) ≡ None) where
    to_cycles : first_refusal (section_conditions M s p c bs) ≡ cycles
    to_cycles = whole ∙ ap refused_at none

    pub stray : has_stray_hole M p (section_cycles M bs) ≡ true → first_refusal (section_conditions M s p c bs) ≡ Some (record { why = SectionHoles; number = s })
    stray e = to_cycles ∙ ap (λ b. cond (not b) numbers (Some (record { why = SectionHoles; number = s }))) e

    pub to_numbers : has_stray_hole M p (section_cycles M bs) ≡ false → first_refusal (section_conditions M s p c bs) ≡ numbers
    to_numbers e = to_cycles ∙ ap (λ b. cond (not b) numbers (Some (record { why = SectionHoles; number = s }))) e

-- ---- what an answer holds

module _ {X E : Type 0} where
  -- a refusal that is told is the one that the answer holds
  pub told : (o : Option Refusal) (q r : Refusal) → o ≡ Some q → ◌≡◌ {A = Result (Result X Refusal) E} (Ok (Err q)) (Ok (Err r)) → o ≡ Some r
  told o q r is e = grind arith

  -- so is a value
  pub value_told : (P : X → Type 0) (x y : X) → P x → ◌≡◌ {A = Result (Result X Refusal) E} (Ok (Ok x)) (Ok (Ok y)) → P y
  value_told P x y p e = grind arith
