-- The faces that a lamina, a block and a sweep make: their numbers, their solid, the points of their corners, and their planes.
use Rattle.std.specs.Prelude.{◌≡◌, ◌<◌, ℕ, ◌+◌, ℤ, pos, List, [], ◌∷◌, map, reverse, get_or}
use Rattle.euler_operators.specs.Common.{Point, Plane, origin, moved, cross, Model, no_point, point_of, solid_of, rings_of, Sound, Has}
use Rattle.euler_operators.specs.Table as table
use Rattle.shapes.specs.Common.{corners, next_place, vector, base_of, plane_through, plane_of}
use Rattle.undo_journal.specs.Machine.{Machine, held}
use Rattle.command_laws.specs.Commands.{IsBlock}

-- the points of a face's corners, in the order of its loops
abbrev pub corner_points : Model → ℕ → List Point
corner_points M f = map (point_of M) (corners M f)

-- point i of some points
abbrev pub nth : List Point → ℕ → Point
nth ps i = get_or ps i no_point

-- the sum of the cross products of successive points, and of the last one with q
abbrev pub area_to : Point → List Point → Point
area_to q [] = origin
area_to q (a ∷ []) = moved (cross a q) origin
area_to q (a ∷ b ∷ ps) = moved (cross a b) (area_to q (b ∷ ps))

-- the plane of a ring of points: it goes through the first, across twice the area
abbrev pub plane_round : List Point → Plane
plane_round ps = plane_through (area_to (nth ps 0) ps) (nth ps 0)

-- face f is there, belongs to solid s and has no ring; its corners are these points, and its plane is that of the points
pub record IsFaceOf (M : Model) (f s : ℕ) (ps : List Point) : Type 0 where
  pub there : Has M.faces f
  pub solid : solid_of M f ≡ s
  pub plain : rings_of M f ≡ []
  pub points : corner_points M f ≡ ps
  pub plane : plane_of M f ≡ plane_round ps

-- the greatest number of a face
abbrev pub last_face : Machine → ℕ
last_face m = table.greatest (held m).faces

-- some points moved, and the side over the edge from a to b
abbrev pub all_moved : Point → List Point → List Point
all_moved d ps = map (λ p. moved p d) ps

abbrev pub side_over : Point → Point → Point → List Point
side_over d a b = a ∷ b ∷ moved b d ∷ moved a d ∷ []

-- the second point, the first, and then the others in reverse order
abbrev pub turned_back : List Point → List Point
turned_back [] = []
turned_back (a ∷ []) = a ∷ []
turned_back (a ∷ b ∷ ps) = b ∷ a ∷ reverse ps

-- the vector by which a block's base is swept up
abbrev pub up_by : ℤ → Point
up_by dz = vector (pos 0) (pos 0) dz

-- the first two new faces of a block are its top and its bottom; then comes a side over each edge of its base
abbrev pub BlockHasTopAndBottom : Type 0
BlockHasTopAndBottom = (before after : Machine) (s : ℕ) (p : Point) (dx dy dz : ℤ) → Sound (held before) → IsBlock before after s p dx dy dz →
    IsFaceOf (held after) (last_face before + 1) s (all_moved (up_by dz) (base_of p dx dy))
    × IsFaceOf (held after) (last_face before + 2) s (turned_back (base_of p dx dy))

abbrev pub BlockHasFourSides : Type 0
BlockHasFourSides = (before after : Machine) (s : ℕ) (p : Point) (dx dy dz : ℤ) (i : ℕ) → Sound (held before) → IsBlock before after s p dx dy dz → i < 4 →
    let ps = base_of p dx dy in IsFaceOf (held after) (last_face before + 3 + i) s (side_over (up_by dz) (nth ps i) (nth ps (next_place 4 i)))

-- so a block raises the greatest number of a face by six, and a lamina by two
abbrev pub BlockTakesSixFaces : Type 0
BlockTakesSixFaces = (before after : Machine) (s : ℕ) (p : Point) (dx dy dz : ℤ) → Sound (held before) → IsBlock before after s p dx dy dz → last_face after ≡ last_face before + 6
