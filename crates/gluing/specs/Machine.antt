-- Glue as a command of the plain machine.
use Rattle.std.specs.Prelude.{ℕ, Option}
use Rattle.euler_operators.specs.declared.Refusal.{Refusal}
use Rattle.shapes.specs.glue.Glue as shapes
use Rattle.shapes.specs.Common.{glue_model}
use Rattle.undo_journal.specs.Machine.{Machine, held, accepted}

-- face g glued to face f
abbrev pub glue_refusal : Machine → ℕ → ℕ → Option Refusal
glue_refusal m f g = shapes.glue_refusal (held m) f g

abbrev pub glue : Machine → ℕ → ℕ → Machine
glue m f g = accepted m (glue_model (held m) f g)
