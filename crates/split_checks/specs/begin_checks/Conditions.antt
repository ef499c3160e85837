-- The conditions of a split that are tested before memory is asked for.
use Rattle.std.specs.Prelude.{◌≡◌, ℕ, Option, None}
use Rattle.euler_operators.specs.Common.{Plane, Model, faces_of, first_refusal}
use Rattle.euler_operators.specs.declared.Refusal.{Refusal}
use Rattle.shapes.specs.Common.{early_split_conditions, faces_are_flat}

-- the refusal of the first of these conditions that is false, if one is
abbrev pub early_refusal : Model → ℕ → Plane → ℕ → Option Refusal
early_refusal M s p t = first_refusal (early_split_conditions M s p t)

-- no loop of solid s is lone, and all its faces are flat
abbrev pub HasFlatFaces : Model → ℕ → Type 0
HasFlatFaces M s = first_refusal (faces_are_flat M (faces_of M s)) ≡ None
