-- A block with its edges along the axes.
use Rattle.std.specs.Prelude.{ℕ, ℤ, pos, int_le, List, [], ◌∷◌, ◌++◌, Option}
use Rattle.euler_operators.specs.Common.{Point, is_in_range, moved, Model, Condition, need, never, first_refusal, numbers_in_range}
use Rattle.euler_operators.specs.Table as table
use Rattle.shapes.specs.Fresh.{taken_in, numbers_left}
use Rattle.euler_operators.specs.declared.Refusal.{Refusal}
use Rattle.euler_operators.specs.declared.Why.TheVariants.{SolidTaken, SizeRange, PointRange}
use Rattle.shapes.specs.Lamina.{lamina_model, lamina_face}
use Rattle.shapes.specs.Prism.{prism_model}

abbrev pub vector : ℤ → ℤ → ℤ → Point
vector x y z = record { x = x; y = y; z = z }

-- the corners of the base
abbrev pub base_of : Point → ℤ → ℤ → List Point
base_of p dx dy = p ∷ moved p (vector dx (pos 0) (pos 0)) ∷ moved p (vector dx dy (pos 0)) ∷ moved p (vector (pos 0) dy (pos 0)) ∷ []

unfoldable pub block_conditions : Model → ℕ → Point → ℤ → ℤ → ℤ → List Condition
block_conditions M s p dx dy dz =
    numbers_in_range (s ∷ []) ++
    never (table.has M.solids s) SolidTaken s
    ∷ need (int_le (pos 1) dx) SizeRange 1
    ∷ need (int_le (pos 1) dy) SizeRange 2
    ∷ need (int_le (pos 1) dz) SizeRange 3
    ∷ need (is_in_range p) PointRange 1
    ∷ need (is_in_range (moved p (vector dx dy dz))) PointRange 2
    ∷ numbers_left (taken_in M) (record { faces = 6; loops = 6; edges = 12; vertices = 8 })

abbrev pub block_refusal : Model → ℕ → Point → ℤ → ℤ → ℤ → Option Refusal
block_refusal M s p dx dy dz = first_refusal (block_conditions M s p dx dy dz)

-- the lamina of the base, with its first face swept up
unfoldable pub block_model : Model → ℕ → Point → ℤ → ℤ → ℤ → Model
block_model M s p dx dy dz = prism_model (lamina_model M s (base_of p dx dy)) (lamina_face M) (vector (pos 0) (pos 0) dz)
