-- When a model is sound.
use Rattle.std.specs.Prelude.{◌≡◌, ◌≢◌, ◌⊎◌, ℕ, true, List, [], Some}
use Rattle.lattice.specs.declared.Point.{Point}
use Rattle.lattice.specs.Point.{IsInRange}
use Rattle.cyclic_list.specs.Items.{IsApart}
use Rattle.cyclic_list.specs.Rings.{canonical}
use Rattle.boundary_model.specs.HalfEdge.{mate}
use Rattle.boundary_model.specs.Table as table
use Rattle.boundary_model.specs.Table.{Table}
use Rattle.boundary_model.specs.Model.{Model, lone, cycle, holds, tail, has_half, content, face_of, solid_of, outer, loop_of, after, round, is_number}

-- half-edge h stands in loop l
abbrev pub StandsIn : Model → ℕ → ℕ → Type 0
StandsIn M h l = holds h (content M l) ≡ true

-- the table has a row for n
abbrev pub Has : {X : Type 0} → Table X → ℕ → Type 0
Has t n = table.has t n ≡ true

-- h's edge is there
abbrev pub HasHalf : Model → ℕ → Type 0
HasHalf M h = has_half M h ≡ true

-- a walk round a vertex from g comes to h
pub data Reaches (next : ℕ → ℕ) (g : ℕ) : ℕ → Type 0 where
  here : Reaches next g g
  further : {h : ℕ} → Reaches next g h → Reaches next g (next h)

-- there is an item, none stands twice, and the least one stands first
pub record IsCycle (hs : List ℕ) : Type 0 where
  pub some_item : hs ≢ []
  pub apart : IsApart hs
  pub from_least : canonical hs ≡ hs

-- some half-edge starts at v
pub record IsTail (M : Model) (v : ℕ) : Type 0 where
  pub half : ℕ
  pub there : HasHalf M half
  pub starts : tail M half ≡ v

-- loop l is lone and stands at v
abbrev pub IsLoneAt : Model → ℕ → ℕ → Type 0
IsLoneAt M l v = content M l ≡ lone v

-- every number that a table uses lies in the range of numbers
abbrev pub NumbersFit : {X : Type 0} → Table X → Type 0
NumbersFit t = (n : ℕ) → Has t n → is_number n ≡ true

pub record Sound (M : Model) : Type 0 where
  -- the half-edges of each edge, and no others, stand in loops: each stands once, and in one loop only
  pub stands : (h : ℕ) → HasHalf M h → StandsIn M h (loop_of M h)
  pub only_edges : (h l : ℕ) → StandsIn M h l → HasHalf M h
  pub one_loop : (h l : ℕ) → StandsIn M h l → loop_of M h ≡ l
  pub cycles : (l : ℕ) (hs : List ℕ) → Has M.loops l → content M l ≡ cycle hs → IsCycle hs
  -- each item ends where the next one starts, and each item starts at a vertex
  pub ends_meet : (h : ℕ) → HasHalf M h → tail M (after M h) ≡ tail M (mate h)
  pub tails_there : (h : ℕ) → HasHalf M h → Has M.vertices (tail M h)
  -- the two ends of an edge differ
  pub ends_differ : (h : ℕ) → HasHalf M h → tail M h ≢ tail M (mate h)
  -- either a vertex stands in one lone loop and no half-edge starts there, or it stands in none, and the half-edges that start there form one cycle
  -- round it
  pub lone_or_tail : (v : ℕ) → Has M.vertices v → ((l : ℕ) × IsLoneAt M l v) ⊎ IsTail M v
  pub lone_is_no_tail : (l h : ℕ) → HasHalf M h → content M l ≢ lone (tail M h)
  pub one_lone : (l k v : ℕ) → IsLoneAt M l v → IsLoneAt M k v → l ≡ k
  pub one_fan : (g h : ℕ) → HasHalf M g → HasHalf M h → tail M g ≡ tail M h → Reaches (round M) g h
  -- each loop belongs to a face, and the outer loop of a face belongs to that face; a lone loop stands at a vertex
  pub loops_of_faces : (l : ℕ) → Has M.loops l → Has M.faces (face_of M l)
  pub outers_there : (f : ℕ) → Has M.faces f → Has M.loops (outer M f) × (face_of M (outer M f) ≡ f)
  pub lone_at_vertex : (l v : ℕ) → IsLoneAt M l v → Has M.vertices v
  -- each face belongs to a solid, and each solid has a face
  pub faces_of_solids : (f : ℕ) → Has M.faces f → Has M.solids (solid_of M f)
  pub solid_has_face : (s : ℕ) → Has M.solids s → (f : ℕ) × Has M.faces f × (solid_of M f ≡ s)
  -- the two faces of an edge belong to one solid
  pub one_solid : (h : ℕ) → HasHalf M h → solid_of M (face_of M (loop_of M h)) ≡ solid_of M (face_of M (loop_of M (mate h)))
  -- numbers and points are in range
  pub solids_fit : NumbersFit M.solids
  pub faces_fit : NumbersFit M.faces
  pub loops_fit : NumbersFit M.loops
  pub edges_fit : NumbersFit M.edges
  pub vertices_fit : NumbersFit M.vertices
  pub points_fit : (v : ℕ) (p : Point) → table.get M.vertices v ≡ Some p → IsInRange p
