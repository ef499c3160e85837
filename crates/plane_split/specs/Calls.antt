-- A split is a call of a history.
use Rattle.std.specs.Prelude.{◌≡◌, ℕ, None}
use Rattle.euler_operators.specs.Common.{Plane, Sound}
use Rattle.split_laws.specs.SplitOps.{split_ops}
use Rattle.undo_journal.specs.Machine.{Machine, held}
use Rattle.undo_journal.specs.Histories.{made, after_call}
use Rattle.plane_split.specs.Machine.{split, split_refusal}

-- a split that isn't refused is the larger command of its operators
abbrev pub SplitsAreCalls : Type 0
SplitsAreCalls = (m : Machine) (s : ℕ) (p : Plane) (t : ℕ) → Sound (held m) → split_refusal m s p t ≡ None → after_call m (made (split_ops (held m) s p t)) ≡ split m s p t
