-- What belongs to a face or a solid.
use Rattle.std.specs.Prelude.{ℕ, ◌&&◌, ◌||◌, nat_eq, List, [], ◌∷◌, ◌++◌, map, Option}
use Rattle.euler_operators.specs.Common.{Point, mate, plus, Model, LoopContent, lone, cycle, items_of, tail, content, outer, point_of, solid_of, faces_of, rings_of, face_at, is_lone, lists}
use Rattle.euler_operators.specs.Table as table
use Rattle.shapes.specs.Fresh.{found}

-- the loops of a face: the outer one, then the rings, rising
unfoldable pub loops_of : Model → ℕ → List ℕ
loops_of M f = outer M f ∷ rings_of M f

-- the half-edges of some loops, one loop after the other
abbrev pub items_in : Model → List ℕ → List ℕ
items_in M [] = []
items_in M (l ∷ ls) = items_of (content M l) ++ items_in M ls

-- the half-edges of a face
unfoldable pub boundary : Model → ℕ → List ℕ
boundary M f = items_in M (loops_of M f)

-- the vertices on a loop, and on some loops
abbrev pub vertices_on : Model → LoopContent → List ℕ
vertices_on M (lone v) = v ∷ []
vertices_on M (cycle hs) = map (tail M) hs

abbrev pub vertices_in : Model → List ℕ → List ℕ
vertices_in M [] = []
vertices_in M (l ∷ ls) = vertices_on M (content M l) ++ vertices_in M ls

-- the vertices of a face's corners, in the order of its loops
unfoldable pub corners : Model → ℕ → List ℕ
corners M f = vertices_in M (loops_of M f)

-- the vertices of the corners of some faces
abbrev pub corners_in : Model → List ℕ → List ℕ
corners_in M [] = []
corners_in M (f ∷ fs) = corners M f ++ corners_in M fs

-- the points at which a half-edge starts and ends
abbrev pub start : Model → ℕ → Point
start M h = point_of M (tail M h)

abbrev pub finish : Model → ℕ → Point
finish M h = start M (mate h)

-- the vertices of a solid, rising
abbrev pub vertices_of : Model → ℕ → List ℕ
vertices_of M s = table.all_where (λ v _. lists (corners_in M (faces_of M s)) v) M.vertices

-- the edges of a solid, rising
abbrev pub edges_of : Model → ℕ → List ℕ
edges_of M s = table.all_where (λ e _. nat_eq (solid_of M (face_at M (plus e))) s) M.edges

-- the faces of two solids, rising
abbrev pub faces_of_both : Model → ℕ → ℕ → List ℕ
faces_of_both M s t = table.all_where (λ _ row. nat_eq row.solid s || nat_eq row.solid t) M.faces

-- the least lone loop of some faces, if there is one
abbrev pub least_lone : Model → List ℕ → Option ℕ
least_lone M fs = found (table.first_where (λ _ row. is_lone row.content && lists fs row.face) M.loops)
