-- Faces that lie flat, told by the points of their corners.
use Rattle.std.specs.Prelude.{◌≡◌, ◌≢◌, ℕ, ℤ, Bool, true, not, ◌&&◌, List}
use Rattle.std.specs.List.{list_all}
use Rattle.euler_operators.specs.Common.{Plane, Point, origin, cross, same_point, is_on, direction, Model, solid_of, Sound, Has}
use Rattle.shapes.specs.Common.{corners, is_flat, is_plane_of, normal, towards}
use Rattle.undo_journal.specs.Machine.{Machine, held}
use Rattle.gluing.specs.Flat.{IsClosedFlat}
use Rattle.command_laws.specs.Commands.{IsBlock, IsSweep, IsGlue}
use Rattle.command_laws.specs.NewFaces.{IsFaceOf, plane_round, side_over}

-- the plane round some points has a direction, and all these points lie on it
abbrev pub lie_flat : List Point → Bool
lie_flat ps = let plane = plane_round ps in not (same_point (direction plane) origin) && list_all (is_on plane) ps

-- a face without rings is flat exactly if its corners lie flat
abbrev pub FacesLieFlat : Type 0
FacesLieFlat = (M : Model) (f s : ℕ) (ps : List Point) → IsFaceOf M f s ps → is_flat M f ≡ lie_flat ps

-- a face, with or without rings, is flat if all its corners lie on some plane, unless it has no area
abbrev pub PlanarLieFlat : Type 0
PlanarLieFlat = (M : Model) (p : Plane) (f : ℕ) → Sound M → Has M.faces f → is_plane_of M p (corners M f) ≡ true → normal M f ≢ origin → is_flat M f ≡ true

-- the corners of a side of a sweep lie flat, unless its edge is parallel to the vector
abbrev pub SidesLieFlat : Type 0
SidesLieFlat = (d a b : Point) → cross (towards a b) d ≢ origin → lie_flat (side_over d a b) ≡ true

-- a face that was swept, with or without rings, is flat exactly if it was flat before
abbrev pub FarFacesLieFlat : Type 0
FarFacesLieFlat = (before after : Machine) (f : ℕ) (d : Point) → Sound (held before) → IsSweep before after f d → is_flat (held after) f ≡ is_flat (held before) f

-- a new block is closed and flat
abbrev pub BlocksLieFlat : Type 0
BlocksLieFlat = (before after : Machine) (s : ℕ) (p : Point) (dx dy dz : ℤ) → Sound (held before) → IsBlock before after s p dx dy dz → IsClosedFlat (held after) s

-- every other solid that was closed and flat before a block still is
abbrev pub BlockKeepsFlat : Type 0
BlockKeepsFlat = (before after : Machine) (s : ℕ) (p : Point) (dx dy dz : ℤ) (u : ℕ) → Sound (held before) → IsBlock before after s p dx dy dz → u ≢ s →
    IsClosedFlat (held before) u → IsClosedFlat (held after) u

-- the solid that a glue keeps is closed and flat, so another face of it can be glued
abbrev pub GluesLieFlat : Type 0
GluesLieFlat = (before after : Machine) (f g : ℕ) → Sound (held before) → IsGlue before after f g → IsClosedFlat (held after) (solid_of (held before) f)

-- every other solid that was closed and flat before a glue still is
abbrev pub GlueKeepsFlat : Type 0
GlueKeepsFlat = (before after : Machine) (f g u : ℕ) → Sound (held before) → IsGlue before after f g → u ≢ solid_of (held before) f →
    IsClosedFlat (held before) u → IsClosedFlat (held after) u
