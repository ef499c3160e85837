-- What a lamina, a block and a sweep leave unchanged.
use Rattle.std.specs.Prelude.{ℕ, ℤ, List}
use Rattle.euler_operators.specs.Common.{Point, Model, Sound}
use Rattle.undo_journal.specs.Machine.{Machine, held}
use Rattle.command_laws.specs.Commands.{IsBlock}
use Rattle.command_laws.specs.NewFaces.{IsFaceOf}
use Rattle.command_laws.specs.LeftAlone.{KeepsOwners, KeepsLoops, KeepsEdges, KeepsPoints, StandsAsBefore, KeepsShapes, Each}

-- the same for a block
abbrev pub BlockKeepsOwners : Type 0
BlockKeepsOwners = (before after : Machine) (s : ℕ) (p : Point) (dx dy dz : ℤ) → IsBlock before after s p dx dy dz → KeepsOwners Each (held before) (held after)

abbrev pub BlockKeepsLoops : Type 0
BlockKeepsLoops = (before after : Machine) (s : ℕ) (p : Point) (dx dy dz : ℤ) → Sound (held before) → IsBlock before after s p dx dy dz → KeepsLoops Each (held before) (held after)

abbrev pub BlockKeepsEdges : Type 0
BlockKeepsEdges = (before after : Machine) (s : ℕ) (p : Point) (dx dy dz : ℤ) → Sound (held before) → IsBlock before after s p dx dy dz → KeepsEdges Each (held before) (held after)

abbrev pub BlockKeepsPoints : Type 0
BlockKeepsPoints = (before after : Machine) (s : ℕ) (p : Point) (dx dy dz : ℤ) → Sound (held before) → IsBlock before after s p dx dy dz → KeepsPoints Each (held before) (held after)

abbrev pub BlockKeepsShapes : Type 0
BlockKeepsShapes = (before after : Machine) (s : ℕ) (p : Point) (dx dy dz : ℤ) → Sound (held before) → IsBlock before after s p dx dy dz → KeepsShapes Each (held before) (held after)

-- what was known of a face that stands as it did still holds of it
abbrev pub FacesStand : Type 0
FacesStand = (M N : Model) (k s : ℕ) (ps : List Point) → StandsAsBefore M N k → IsFaceOf M k s ps → IsFaceOf N k s ps
