-- A glue is a call of a history.
use Rattle.std.specs.Prelude.{◌≡◌, ℕ, None}
use Rattle.euler_operators.specs.Common.{Sound}
use Rattle.shapes.specs.Common.{glue_ops}
use Rattle.undo_journal.specs.Machine.{Machine, held}
use Rattle.undo_journal.specs.Histories.{made, after_call}
use Rattle.gluing.specs.Machine.{glue, glue_refusal}

-- a glue that isn't refused is the larger command of its operators
abbrev pub GluesAreCalls : Type 0
GluesAreCalls = (m : Machine) (f g : ℕ) → Sound (held m) → glue_refusal m f g ≡ None → after_call m (made (glue_ops (held m) f g)) ≡ glue m f g
