-- The solids that are there after each command.
use Rattle.std.specs.Prelude.{◌≡◌, ℕ, ℤ, false, List}
use Rattle.euler_operators.specs.Common.{Point, solid_of, Sound, Has}
use Rattle.euler_operators.specs.Table as table
use Rattle.undo_journal.specs.Machine.{Machine, held}
use Rattle.command_laws.specs.Commands.{IsLamina, IsBlock, IsSweep, IsGlue}

-- a new block and a new lamina are there
abbrev pub BlocksAreThere : Type 0
BlocksAreThere = (before after : Machine) (s : ℕ) (p : Point) (dx dy dz : ℤ) → IsBlock before after s p dx dy dz → Has (held after).solids s

abbrev pub LaminasAreThere : Type 0
LaminasAreThere = (before after : Machine) (s : ℕ) (ps : List Point) → IsLamina before after s ps → Has (held after).solids s

-- the solid of a face that was swept is there
abbrev pub SweptAreThere : Type 0
SweptAreThere = (before after : Machine) (f : ℕ) (d : Point) → Sound (held before) → IsSweep before after f d → Has (held after).solids (solid_of (held before) f)

-- and so is every solid that was there before the sweep
abbrev pub SweepsKeepSolids : Type 0
SweepsKeepSolids = (before after : Machine) (f : ℕ) (d : Point) → IsSweep before after f d → (held after).solids ≡ (held before).solids

-- after a glue the solid of the first face is there, and that of the second is gone
abbrev pub GluesJoinSolids : Type 0
GluesJoinSolids = (before after : Machine) (f g : ℕ) → Sound (held before) → IsGlue before after f g →
    Has (held after).solids (solid_of (held before) f) × (table.has (held after).solids (solid_of (held before) g) ≡ false)
