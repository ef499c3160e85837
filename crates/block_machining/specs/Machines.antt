-- The machines of this program: what the commands of the plain machine make, one after the other, and what is said of the models that they
-- hold.
use Rattle.std.specs.Prelude.{◌≡◌, ℕ, ℤ, pos, neg_ℤ, false, List, [], ◌∷◌}
use Rattle.euler_operators.specs.Common.{Has, Model, Plane, Point, origin}
use Rattle.sweeps.specs.Machine.{block}
use Rattle.sweeps.specs.PlainMachine.{Machine, start, undo}
use Rattle.gluing.specs.Machine.{glue}
use Rattle.plane_split.specs.Faces.{vertices_of}
use Rattle.plane_split.specs.Machine.{plane_with, split}
use Rattle.plane_split.specs.Sides.{some_above, some_below}

-- a block that stands apart as solid 3, a block as solid 1, and a block at the end of that one as solid 2
unfoldable pub alone : Machine
alone = block start 3 (record { x = pos 10; y = pos 0; z = pos 0 }) (pos 2) (pos 2) (pos 2)

unfoldable pub standing : Machine
standing = block alone 1 origin (pos 4) (pos 3) (pos 2)

unfoldable pub three_blocks : Machine
three_blocks = block standing 2 (record { x = pos 4; y = pos 0; z = pos 0 }) (pos 1) (pos 3) (pos 2)

-- the two glued at the sides that meet
unfoldable pub bar : Machine
bar = glue three_blocks 10 18

-- the bar cut at x = 2; what lies past it is solid 2
abbrev pub cut_plane : Plane
cut_plane = plane_with (pos 1) (pos 0) (pos 0) (neg_ℤ (pos 2))

unfoldable pub parted : Machine
parted = split bar 1 cut_plane 2

-- the cut taken back
unfoldable pub joined_again : Machine
joined_again = undo parted

-- the corners at x = 4 of the one block, and those of the other, which go round in the opposite direction
abbrev pub at : ℤ → ℤ → Point
at y z = record { x = pos 4; y = y; z = z }

abbrev pub near_side : List Point
near_side = at (pos 0) (pos 0) ∷ at (pos 3) (pos 0) ∷ at (pos 3) (pos 2) ∷ at (pos 0) (pos 2) ∷ []

abbrev pub far_side : List Point
far_side = at (pos 3) (pos 0) ∷ at (pos 0) (pos 0) ∷ at (pos 0) (pos 2) ∷ at (pos 3) (pos 2) ∷ []

-- these solids are there
abbrev pub HasSolids : Model → ℕ → ℕ → ℕ → Type 0
HasSolids M s t u = Has M.solids s × Has M.solids t × Has M.solids u

-- no vertex of solid s lies above the plane of the cut, and none of solid t below it
abbrev pub LieOnEitherSide : Model → ℕ → ℕ → Type 0
LieOnEitherSide M s t = (some_above M cut_plane (vertices_of M s) ≡ false) × (some_below M cut_plane (vertices_of M t) ≡ false)
