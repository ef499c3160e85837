-- The laws of the lamina, over every sound model in which its conditions hold.
use Rattle.std.specs.Prelude.{◌≡◌, ℕ, ℤ, pos, List, None}
use Rattle.euler_operators.specs.Common.{Point, Model, Sound}
use Rattle.euler_laws.specs.Laws.{AreAccepted, effects}
use Rattle.shapes.specs.Common.{lamina_refusal, lamina_model, lamina_face, prism_refusal, vector, base_of, block_refusal}
use Rattle.sweeps_laws.specs.lamina.Path.{lamina_operators}

-- none of the lamina's operators is refused
abbrev pub OperatorsAreAccepted : Type 0
OperatorsAreAccepted = (M : Model) (s : ℕ) (ps : List Point) → Sound M → lamina_refusal M s ps ≡ None → AreAccepted M (lamina_operators M s ps)

-- together they make the lamina
abbrev pub OperatorsMakeLamina : Type 0
OperatorsMakeLamina = (M : Model) (s : ℕ) (ps : List Point) → Sound M → lamina_refusal M s ps ≡ None → effects M (lamina_operators M s ps) ≡ lamina_model M s ps

-- the model with the lamina is sound
abbrev pub LaminaIsSound : Type 0
LaminaIsSound = (M : Model) (s : ℕ) (ps : List Point) → Sound M → lamina_refusal M s ps ≡ None → Sound (lamina_model M s ps)

-- if a block can be made, the lamina of its base can be made too
abbrev pub BlocksHaveBases : Type 0
BlocksHaveBases = (M : Model) (s : ℕ) (p : Point) (dx dy dz : ℤ) → block_refusal M s p dx dy dz ≡ None → lamina_refusal M s (base_of p dx dy) ≡ None

-- then the lamina's first face can be swept up
abbrev pub BasesRise : Type 0
BasesRise = (M : Model) (s : ℕ) (p : Point) (dx dy dz : ℤ) → Sound M → block_refusal M s p dx dy dz ≡ None →
    prism_refusal (lamina_model M s (base_of p dx dy)) (lamina_face M) (vector (pos 0) (pos 0) dz) ≡ None
