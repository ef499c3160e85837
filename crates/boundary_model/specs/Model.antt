-- A boundary model: solids, faces, loops, edges and vertices, each by its number.
use Rattle.std.specs.Prelude.{ℕ, ◌*◌, Bool, cond, not, ◌&&◌, nat_eq, nat_le, nat_lt, List, [], length, unwrap_or, pos}
use Rattle.lattice.specs.declared.Point.{Point}
use Rattle.cyclic_list.specs.Items.{count}
use Rattle.cyclic_list.specs.Rings.{successor, predecessor}
use Rattle.cyclic_list.specs.Rings as rings
use Rattle.boundary_model.specs.HalfEdge.{mate, edge_of, is_first}
use Rattle.boundary_model.specs.Table as table
use Rattle.boundary_model.specs.Table.{Table}

-- what a loop holds: one vertex and no edge, or a cycle of half-edges, written from the least one on
pub data LoopContent : Type 0 where
  lone : ℕ → LoopContent
  cycle : List ℕ → LoopContent

-- a face belongs to a solid and has an outer loop. Its rings are the other loops that name this face
pub record FaceRow : Type 0 where
  pub solid : ℕ
  pub outer : ℕ

-- a loop belongs to a face
pub record LoopRow : Type 0 where
  pub face : ℕ
  pub content : LoopContent

-- an edge's two half-edges start at two vertices
pub record EdgeRow : Type 0 where
  pub plus_tail : ℕ
  pub minus_tail : ℕ

-- what a workbench holds
pub record Model : Type 0 where
  pub solids : Table (Unit {0})
  pub faces : Table FaceRow
  pub loops : Table LoopRow
  pub edges : Table EdgeRow
  pub vertices : Table Point

-- the empty model
unfoldable pub empty_model : Model
empty_model = record { solids = table.empty; faces = table.empty; loops = table.empty; edges = table.empty; vertices = table.empty }

-- the half-edges of a loop; none if the loop is lone
abbrev pub items_of : LoopContent → List ℕ
items_of (lone v) = []
items_of (cycle hs) = hs

-- whether half-edge h stands in the loop
unfoldable pub holds : ℕ → LoopContent → Bool
holds h c = nat_lt 0 (count h (items_of c))

abbrev pub no_face : FaceRow
no_face = record { solid = 0; outer = 0 }

abbrev pub no_loop : LoopRow
no_loop = record { face = 0; content = cycle [] }

abbrev pub no_edge : EdgeRow
no_edge = record { plus_tail = 0; minus_tail = 0 }

abbrev pub no_point : Point
no_point = record { x = pos 0; y = pos 0; z = pos 0 }

abbrev pub tail_in : EdgeRow → Bool → ℕ
tail_in row first = cond first row.plus_tail row.minus_tail

-- the vertex at which half-edge h starts
unfoldable pub tail : Model → ℕ → ℕ
tail M h = tail_in (unwrap_or (table.get M.edges (edge_of h)) no_edge) (is_first h)

-- whether h's edge is there
abbrev pub has_half : Model → ℕ → Bool
has_half M h = table.has M.edges (edge_of h)

-- the loop in which h stands, or 0
unfoldable pub loop_of : Model → ℕ → ℕ
loop_of M h = table.first_where (λ _ row. holds h row.content) M.loops

-- what a loop holds; the empty list if the loop isn't there
unfoldable pub content : Model → ℕ → LoopContent
content M l = (unwrap_or (table.get M.loops l) no_loop).content

-- the face of a loop
unfoldable pub face_of : Model → ℕ → ℕ
face_of M l = (unwrap_or (table.get M.loops l) no_loop).face

-- the solid of a face
unfoldable pub solid_of : Model → ℕ → ℕ
solid_of M f = (unwrap_or (table.get M.faces f) no_face).solid

-- the outer loop of a face
unfoldable pub outer : Model → ℕ → ℕ
outer M f = (unwrap_or (table.get M.faces f) no_face).outer

-- the point of a vertex
unfoldable pub point_of : Model → ℕ → Point
point_of M v = unwrap_or (table.get M.vertices v) no_point

-- whether loop l is a ring of face f: it names f and isn't f's outer loop
abbrev pub is_ring_of : Model → ℕ → ℕ → Bool
is_ring_of M f l = table.has M.loops l && nat_eq (face_of M l) f && not (nat_eq (outer M f) l)

-- the faces of a solid, rising
abbrev pub faces_of : Model → ℕ → List ℕ
faces_of M s = table.all_where (λ _ row. nat_eq row.solid s) M.faces

-- the rings of a face, rising
abbrev pub rings_of : Model → ℕ → List ℕ
rings_of M f = table.all_where (λ l row. nat_eq row.face f && not (nat_eq (outer M f) l)) M.loops

-- the cycle in which h stands
abbrev pub cycle_of : Model → ℕ → List ℕ
cycle_of M h = items_of (content M (loop_of M h))

-- the next item of h's loop, and the one before
unfoldable pub after : Model → ℕ → ℕ
after M h = successor (cycle_of M h) h

unfoldable pub before : Model → ℕ → ℕ
before M h = predecessor (cycle_of M h) h

-- the next half-edge that leaves the same vertex
abbrev pub round : Model → ℕ → ℕ
round M h = after M (mate h)

-- g, round(g) and so on, up to but without h: at most as many items as there are half-edges
unfoldable pub arc : Model → ℕ → ℕ → List ℕ
arc M g h = rings.arc (round M) g h (2 * length M.edges.rows)

-- a number of a kind: from 1 to a million
abbrev pub is_number : ℕ → Bool
is_number n = nat_le 1 n && nat_le n 1000000
