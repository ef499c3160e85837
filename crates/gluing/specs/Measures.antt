-- What a glue makes of the six volumes of solids: s is the machine before an accepted glue, and t the one after it.
use Rattle.std.specs.Prelude.{◌≡◌, ◌≢◌, ℕ, ◌+ℤ◌, None}
use Rattle.euler_operators.specs.Common.{solid_of, Sound}
use Rattle.undo_journal.specs.Machine.{Machine, held}
use Rattle.shapes.specs.Common.{six_volume}
use Rattle.gluing.specs.Machine.{glue, glue_refusal}

-- the solid of the first face has the six volumes of both solids before
abbrev pub GluedSolid : Type 0
GluedSolid = (s t : Machine) (f g : ℕ) → Sound (held s) → glue_refusal s f g ≡ None → t ≡ glue s f g →
    six_volume (held t) (solid_of (held s) f) ≡ six_volume (held s) (solid_of (held s) f) +ℤ six_volume (held s) (solid_of (held s) g)

-- every solid that wasn't glued keeps its six volumes
abbrev pub OthersThanGlued : Type 0
OthersThanGlued = (s t : Machine) (f g u : ℕ) → Sound (held s) → glue_refusal s f g ≡ None → t ≡ glue s f g →
    u ≢ solid_of (held s) f → u ≢ solid_of (held s) g → six_volume (held t) u ≡ six_volume (held s) u
