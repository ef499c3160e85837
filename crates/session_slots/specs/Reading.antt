-- What readers tell of a model.
use Rattle.std.specs.Prelude.{◌≡◌, ℕ, true, false, cond, nat_eq, List, [], ◌∷◌, ◌++◌, map, Option, Some, None}
use Rattle.session_slots.specs.Common.Below.{IsIn, IsRotation, plus, minus, edge_of, Model, LoopContent, lone, cycle, items_of, solid_of, outer, face_of, content, tail, after, before, loop_of, point_of, Kind, has, loops_of, Store, empty_store, IsNextNumber, IsNextRing, IsNextFace, FaceRow, EdgeRow, Place, HalfEdgeRow}

-- the solid and the outer loop of face f, if it is there
abbrev pub face_in : ℕ → Model → Option FaceRow
face_in f M = cond (has M.faces f) (Some (record { solid = solid_of M f; outer_loop = outer M f })) None

-- the face of loop l
abbrev pub face_of_loop_in : ℕ → Model → Option ℕ
face_of_loop_in l M = cond (has M.loops l) (Some (face_of M l)) None

-- the vertices at which the half-edges of edge e start
abbrev pub ends_of : Model → ℕ → EdgeRow
ends_of M e = record { from = tail M (plus e); to = tail M (minus e) }

abbrev pub edge_in : ℕ → Model → Option EdgeRow
edge_in e M = cond (has M.edges e) (Some (ends_of M e)) None

-- the vertex of loop l, if it is lone
abbrev pub lone_of : LoopContent → Option ℕ
lone_of (lone v) = Some v
lone_of (cycle hs) = None

abbrev pub lone_in : ℕ → Model → Option ℕ
lone_in l M = cond (has M.loops l) (lone_of (content M l)) None

-- a half-edge of the loop; none if the loop is lone
abbrev pub IsItemOf : LoopContent → Option ℕ → Type 0
IsItemOf (lone v) None = Unit {0}
IsItemOf (lone v) (Some h) = ⊥
IsItemOf (cycle hs) None = ⊥
IsItemOf (cycle hs) (Some h) = IsIn h hs

-- a half-edge of loop l; none if l is lone or not there
abbrev pub IsFirst : ℕ → Model → Option ℕ → Type 0
IsFirst l M o = (has M.loops l ≡ true → IsItemOf (content M l) o) × (has M.loops l ≡ false → o ≡ None)

-- the half-edges of loop l in their order round it, from any of them on; none if the loop is lone or not there
abbrev pub AreHalfEdges : ℕ → Model → List ℕ → Type 0
AreHalfEdges l M hs = IsRotation (items_of (content M l)) hs

-- those of some loops, one loop after another
abbrev pub AreRound : Model → List ℕ → List ℕ → Type 0
AreRound M [] hs = hs ≡ []
AreRound M (l ∷ ls) hs = (here rest : List ℕ) × AreHalfEdges l M here × AreRound M ls rest × (hs ≡ here ++ rest)

-- what f gives for each half-edge of loop l
abbrev pub AreTold : {X : Type 0} → (Model → ℕ → X) → ℕ → Model → List X → Type 0
AreTold f l M xs = (hs : List ℕ) × AreHalfEdges l M hs × (xs ≡ map (f M) hs)

-- half-edge h, the vertex at which it starts, the half-edge after it, and the loop and the face in which it stands
abbrev pub row_of : Model → ℕ → HalfEdgeRow
row_of M h = record { half_edge = h; start = tail M h; next = after M h; of_loop = loop_of M h; face = face_of M (loop_of M h) }

-- the rows of the half-edges of face f: those of its outer loop, then those of its rings, rising; none if f is not there
abbrev pub AreRows : ℕ → Model → List HalfEdgeRow → Type 0
AreRows f M rows = (hs : List ℕ) × AreRound M (cond (has M.faces f) (loops_of M f) []) hs × (rows ≡ map (row_of M) hs)

-- the item after half-edge h in its loop, if h's edge is there
abbrev pub after_in : ℕ → Model → Option ℕ
after_in h M = cond (has M.edges (edge_of h)) (Some (after M h)) None

-- the item before it
abbrev pub before_in : ℕ → Model → Option ℕ
before_in h M = cond (has M.edges (edge_of h)) (Some (before M h)) None

-- the loop in which half-edge h stands
abbrev pub loop_in : ℕ → Model → Option ℕ
loop_in h M = cond (has M.edges (edge_of h)) (Some (loop_of M h)) None

-- the least ring of face f above n; none if f is not there
abbrev pub IsRingAfter : ℕ → ℕ → Model → Option ℕ → Type 0
IsRingAfter f n M o = (has M.faces f ≡ true → IsNextRing M f n o) × (has M.faces f ≡ false → o ≡ None)

-- the least face of solid n above m
abbrev pub IsFaceAfter : ℕ → ℕ → Model → Option ℕ → Type 0
IsFaceAfter n m M o = IsNextFace M n m o

-- the kinds as C numbers them
abbrev pub kind_of : ℕ → Option Kind
kind_of n = cond (nat_eq n 0) (Some Kind.Solid) (cond (nat_eq n 1) (Some Kind.Face) (cond (nat_eq n 2) (Some Kind.Loop) (cond (nat_eq n 3) (Some Kind.Edge) (cond (nat_eq n 4) (Some Kind.Vertex) None))))

-- an arena that holds this model and nothing else
abbrev pub store_of : Model → Store
store_of M = record empty_store { model = M }

-- the least number of a kind in use above n; none if there is no such kind
abbrev pub IsNumberAfter : Option Kind → ℕ → Model → Option ℕ → Type 0
IsNumberAfter None n M o = o ≡ None
IsNumberAfter (Some k) n M o = IsNextNumber (store_of M) k n o

-- the point of vertex v
abbrev pub point_in : ℕ → Model → Option Place
point_in v M = cond (has M.vertices v) (Some (record { x = (point_of M v).x; y = (point_of M v).y; z = (point_of M v).z })) None
