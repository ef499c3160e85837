-- The conditions of a glue that are tested before memory is asked for.
use Rattle.std.specs.Prelude.{ℕ, Option}
use Rattle.euler_operators.specs.Common.{Model, first_refusal}
use Rattle.euler_operators.specs.declared.Refusal.{Refusal}
use Rattle.shapes.specs.Common.{early_glue_conditions}

-- the refusal of the first of these conditions that is false, if one is
abbrev pub early_refusal : Model → ℕ → ℕ → Option Refusal
early_refusal M f g = first_refusal (early_glue_conditions M f g)
