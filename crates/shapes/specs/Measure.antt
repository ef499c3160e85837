-- Normals, planes and volumes.
use Rattle.std.specs.Prelude.{ℕ, ℤ, pos, ◌+ℤ◌, neg_ℤ, Bool, not, ◌&&◌, List, [], ◌∷◌, ◌++◌, Option}
use Rattle.std.specs.List.{list_all}
use Rattle.euler_operators.specs.Common.{Point, Plane, origin, moved, dot, cross, same_point, is_on, direction, head_or, Model, LoopContent, lone, cycle, tail, content, outer, point_of, faces_of, Condition, need, first_refusal, numbers_in_range}
use Rattle.euler_operators.specs.Table as table
use Rattle.shapes.specs.Faces.{boundary, corners, start, finish, least_lone}
use Rattle.shapes.specs.Fresh.{no_such, first_such}
use Rattle.euler_operators.specs.declared.Refusal.{Refusal}
use Rattle.euler_operators.specs.declared.Why.TheVariants.{NoFace, LoneLoop, NotFlat}

-- the sum of p x q over half-edges that go from p to q
abbrev pub area : Model → List ℕ → Point
area M [] = origin
area M (h ∷ hs) = moved (cross (start M h) (finish M h)) (area M hs)

-- no number of such a sum over different half-edges is greater than this in magnitude
abbrev pub area_limit : ℕ
area_limit = 4000004000000000000000000

-- twice the area of a face, as a vector across it
unfoldable pub normal : Model → ℕ → Point
normal M f = area M (boundary M f)

-- the vertex of the first corner of a face
abbrev pub first_vertex : Model → LoopContent → ℕ
first_vertex M (lone v) = v
first_vertex M (cycle hs) = tail M (head_or 0 hs)

abbrev pub anchor : Model → ℕ → Point
anchor M f = point_of M (first_vertex M (content M (outer M f)))

-- the plane through a point, across a vector
abbrev pub plane_through : Point → Point → Plane
plane_through n r = record { a = n.x; b = n.y; c = n.z; d = neg_ℤ (dot n r) }

unfoldable pub plane_of : Model → ℕ → Plane
plane_of M f = plane_through (normal M f) (anchor M f)

-- the plane has a direction, and all these vertices lie on it
abbrev pub is_plane_of : Model → Plane → List ℕ → Bool
is_plane_of M p vs = not (same_point (direction p) origin) && list_all (λ v. is_on p (point_of M v)) vs

unfoldable pub is_flat : Model → ℕ → Bool
is_flat M f = is_plane_of M (plane_of M f) (corners M f)

-- no loop of some faces is lone, and each face is flat
abbrev pub faces_are_flat : Model → List ℕ → List Condition
faces_are_flat M fs = no_such (least_lone M fs) LoneLoop ∷ no_such (first_such (λ f. not (is_flat M f)) fs) NotFlat ∷ []

-- the sum over some faces of their normals times their anchors
abbrev pub volume_in : Model → List ℕ → ℤ
volume_in M [] = pos 0
volume_in M (f ∷ fs) = dot (anchor M f) (normal M f) +ℤ volume_in M fs

-- six times the volume of a solid
unfoldable pub six_volume : Model → ℕ → ℤ
six_volume M s = volume_in M (faces_of M s)

-- when a query about a face is refused
abbrev pub face_refusal : Model → ℕ → Option Refusal
face_refusal M f = first_refusal (numbers_in_range (f ∷ []) ++ need (table.has M.faces f) NoFace f ∷ [])
