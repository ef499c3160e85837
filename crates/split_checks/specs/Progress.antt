-- The progress of a drawing, in the types of the code.
use Rattle.std.specs.Prelude.{ℕ, List}
use Rattle.euler_operators.specs.Common.{Model}
use Rattle.shapes.specs.Common.{Drawing}
use Rattle.solid_measure.specs.Counters.{taken_of}
use Rattle.split_checks.specs.declared.progress.Progress.{Progress}

-- the drawing so far: its model, and the pairs that are left
abbrev pub drawing_of : Progress → Model → List (ℕ × ℕ) → Drawing
drawing_of c M left = record { model = M; taken = taken_of c.taken; left = left; stuck = c.stuck }
