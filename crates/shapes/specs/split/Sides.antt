-- On which side of a plane vertices, edges and faces lie.
use Rattle.std.specs.Prelude.{ℕ, pos, int_lt, Bool, not, ◌&&◌, ◌||◌, List, filter}
use Rattle.std.specs.List.{list_any}
use Rattle.euler_operators.specs.Common.{Plane, dot, direction, is_above, is_below, are_opposite, plus, Model, point_of, faces_of}
use Rattle.shapes.specs.Faces.{corners, start, finish, edges_of}
use Rattle.shapes.specs.Measure.{normal}

-- whether some of the vertices lie strictly above the plane, and whether some lie strictly below
abbrev pub some_above : Model → Plane → List ℕ → Bool
some_above M p vs = list_any (λ v. is_above p (point_of M v)) vs

abbrev pub some_below : Model → Plane → List ℕ → Bool
some_below M p vs = list_any (λ v. is_below p (point_of M v)) vs

-- whether a face has a corner above, and whether it has a corner below
abbrev pub reaches_above : Model → Plane → ℕ → Bool
reaches_above M p f = some_above M p (corners M f)

abbrev pub reaches_below : Model → Plane → ℕ → Bool
reaches_below M p f = some_below M p (corners M f)

-- a face straddles: it has a corner above and a corner below
unfoldable pub straddles : Model → Plane → ℕ → Bool
straddles M p f = reaches_above M p f && reaches_below M p f

abbrev pub straddling_faces : Model → Plane → ℕ → List ℕ
straddling_faces M p s = filter (straddles M p) (faces_of M s)

-- a half-edge crosses the plane: its ends lie strictly on opposite sides
abbrev pub crosses : Model → Plane → ℕ → Bool
crosses M p h = are_opposite p (start M h) (finish M h)

-- the edges of a solid that cross the plane, rising
abbrev pub crossing_edges : Model → Plane → ℕ → List ℕ
crossing_edges M p s = filter (λ e. crosses M p (plus e)) (edges_of M s)

-- a face is above if it has a corner above. A face wholly on the plane is above unless its normal points along the plane's direction
unfoldable pub face_is_above : Model → Plane → ℕ → Bool
face_is_above M p f = reaches_above M p f || (not (reaches_below M p f) && not (int_lt (pos 0) (dot (normal M f) (direction p))))

-- the faces of a solid that are above, rising; the others are below
abbrev pub faces_above : Model → Plane → ℕ → List ℕ
faces_above M p s = filter (face_is_above M p) (faces_of M s)
