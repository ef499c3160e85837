-- Split as a command of the plain machine.
use Rattle.std.specs.Prelude.{ℕ, ℤ, Option}
use Rattle.euler_operators.specs.Common.{Plane}
use Rattle.euler_operators.specs.declared.Refusal.{Refusal}
use Rattle.shapes.specs.split.Split as shapes
use Rattle.shapes.specs.Common.{split_model}
use Rattle.undo_journal.specs.Machine.{Machine, held, accepted}

-- the plane a x + b y + c z + d = 0
abbrev pub plane_with : ℤ → ℤ → ℤ → ℤ → Plane
plane_with a b c d = record { a = a; b = b; c = c; d = d }

-- solid s split by the plane p; its upper part becomes the new solid t
abbrev pub split_refusal : Machine → ℕ → Plane → ℕ → Option Refusal
split_refusal m s p t = shapes.split_refusal (held m) s p t

abbrev pub split : Machine → ℕ → Plane → ℕ → Machine
split m s p t = accepted m (split_model (held m) s p t)
