-- What an arena stands for: a model, the rings that stand in no loop, and the numbers that have room.
use Rattle.std.specs.Prelude.{◌≡◌, ◌≢◌, ◌<◌, ℕ, Bool, true, false, cond, nat_eq, nat_le, ◌&&◌, List, [], ◌∷◌, Option, Some, None, unwrap_or}
use Rattle.boundary_model.specs.declared.Point.{Point}
use Rattle.boundary_model.specs.Rings.{cut_left, cut_right, joined}
use Rattle.boundary_model.specs.Items.{IsIn}
use Rattle.boundary_model.specs.declared.Kind.{Kind}
use Rattle.boundary_model.specs.declared.Kind.TheVariants.{Solid, Face, Loop, Edge, Vertex}
use Rattle.boundary_model.specs.declared.Content.{Content}
use Rattle.boundary_model.specs.HalfEdge.{code, plus, minus, edge_of, is_first}
use Rattle.boundary_model.specs.Table as table
use Rattle.boundary_model.specs.Table.{Table}
use Rattle.boundary_model.specs.Model.{Model, LoopContent, lone, cycle, LoopRow, holds, items_of, content, face_of, solid_of, outer, loop_of, cycle_of, empty_model, no_edge, is_ring_of}

-- for each kind but edges, the greatest number that has room (each smaller one from 1 on has room too); for edges, the numbers that have
-- room
pub record Extents : Type 0 where
  pub solids : ℕ
  pub faces : ℕ
  pub loops : ℕ
  pub edges : Table (Unit {0})
  pub vertices : ℕ

-- loose: the rings that stand in no loop, each under its least half-edge
pub record Store : Type 0 where
  pub model : Model
  pub loose : Table (List ℕ)
  pub room : Extents

abbrev pub within : ℕ → ℕ → Bool
within n greatest = nat_le 1 n && nat_le n greatest

-- whether number n of a kind has its room
abbrev pub has_room : Store → Kind → ℕ → Bool
has_room s Solid n = within n s.room.solids
has_room s Face n = within n s.room.faces
has_room s Loop n = within n s.room.loops
has_room s Edge n = table.has s.room.edges n
has_room s Vertex n = within n s.room.vertices

-- whether number n of a kind is in use
abbrev pub has_number : Store → Kind → ℕ → Bool
has_number s Solid n = table.has s.model.solids n
has_number s Face n = table.has s.model.faces n
has_number s Loop n = table.has s.model.loops n
has_number s Edge n = table.has s.model.edges n
has_number s Vertex n = table.has s.model.vertices n

abbrev pub no_room : Extents
no_room = record { solids = 0; faces = 0; loops = 0; edges = table.empty; vertices = 0 }

-- an arena that holds nothing and has no room
abbrev pub empty_store : Store
empty_store = record { model = empty_model; loose = table.empty; room = no_room }

-- the least number in use above n, or none
abbrev pub IsNextNumber : Store → Kind → ℕ → Option ℕ → Type 0
IsNextNumber s kind n None = (k : ℕ) → n < k → has_number s kind k ≡ false
IsNextNumber s kind n (Some m) = (n < m) × (has_number s kind m ≡ true) × ((k : ℕ) → n < k → k < m → has_number s kind k ≡ false)

-- the least ring of face f above n, or none
abbrev pub IsNextRing : Model → ℕ → ℕ → Option ℕ → Type 0
IsNextRing M f n None = (k : ℕ) → n < k → is_ring_of M f k ≡ false
IsNextRing M f n (Some m) = (n < m) × (is_ring_of M f m ≡ true) × ((k : ℕ) → n < k → k < m → is_ring_of M f k ≡ false)

-- face k is there and belongs to solid s
abbrev pub is_face_of : Model → ℕ → ℕ → Bool
is_face_of M s k = table.has M.faces k && nat_eq (solid_of M k) s

-- the least face of solid s above n, or none
abbrev pub IsNextFace : Model → ℕ → ℕ → Option ℕ → Type 0
IsNextFace M s n None = (k : ℕ) → n < k → is_face_of M s k ≡ false
IsNextFace M s n (Some m) = (n < m) × (is_face_of M s m ≡ true) × ((k : ℕ) → n < k → k < m → is_face_of M s k ≡ false)

-- the number in a list of one number
abbrev pub only_item : List ℕ → Option ℕ
only_item [] = None
only_item (n ∷ []) = Some n
only_item (n ∷ m ∷ ns) = None

-- the greatest number in use, or 0
pub record IsGreatest (s : Store) (kind : Kind) (m : ℕ) : Type 0 where
  pub used : m ≢ 0 → has_number s kind m ≡ true
  pub above : (k : ℕ) → m < k → has_number s kind k ≡ false

-- nothing has changed, except that more numbers may have their room
pub record HasGrown (old new : Store) : Type 0 where
  pub model : new.model ≡ old.model
  pub loose : new.loose ≡ old.loose
  pub kept : (kind : Kind) (n : ℕ) → has_room old kind n ≡ true → has_room new kind n ≡ true

-- the loose ring in which h stands
unfoldable pub loose_key : Store → ℕ → ℕ
loose_key s h = table.first_where (λ _ hs. holds h (cycle hs)) s.loose

abbrev pub loose_ring : Store → ℕ → List ℕ
loose_ring s h = unwrap_or (table.get s.loose (loose_key s h)) []

-- the table of loose rings with one more
abbrev pub loosened : List ℕ → Table (List ℕ) → Table (List ℕ)
loosened [] t = t
loosened (h ∷ hs) t = table.put t h (h ∷ hs)

abbrev pub with_loop : Model → ℕ → LoopContent → Model
with_loop M l c = record M { loops = table.put M.loops l (record { face = face_of M l; content = c }) }

-- a new solid, face or vertex; and a solid, face, vertex or loop that goes
abbrev pub put_solid : Store → ℕ → Store
put_solid s n = record s { model = record s.model { solids = table.put s.model.solids n tt } }

abbrev pub take_solid : Store → ℕ → Store
take_solid s n = record s { model = record s.model { solids = table.remove s.model.solids n } }

abbrev pub put_face : Store → ℕ → ℕ → ℕ → Store
put_face s f n l = record s { model = record s.model { faces = table.put s.model.faces f (record { solid = n; outer = l }) } }

abbrev pub take_face : Store → ℕ → Store
take_face s f = record s { model = record s.model { faces = table.remove s.model.faces f } }

abbrev pub put_vertex : Store → ℕ → Point → Store
put_vertex s v p = record s { model = record s.model { vertices = table.put s.model.vertices v p } }

abbrev pub take_vertex : Store → ℕ → Store
take_vertex s v = record s { model = record s.model { vertices = table.remove s.model.vertices v } }

abbrev pub take_loop : Store → ℕ → Store
take_loop s l = record s { model = record s.model { loops = table.remove s.model.loops l } }

-- face f gets another outer loop, or another solid
abbrev pub set_outer : Store → ℕ → ℕ → Store
set_outer s f l = record s { model = record s.model { faces = table.put s.model.faces f (record { solid = solid_of s.model f; outer = l }) } }

abbrev pub set_solid : Store → ℕ → ℕ → Store
set_solid s f n = record s { model = record s.model { faces = table.put s.model.faces f (record { solid = n; outer = outer s.model f }) } }

-- loop l gets another face
abbrev pub set_face : Store → ℕ → ℕ → Store
set_face s l f = record s { model = record s.model { loops = table.put s.model.loops l (record { face = f; content = content s.model l }) } }

-- a new edge from a to b, whose half-edges are loose
unfoldable pub put_edge : Store → ℕ → ℕ → ℕ → Store
put_edge s e a b = record s {
  model = record s.model { edges = table.put s.model.edges e (record { plus_tail = a; minus_tail = b }) };
  loose = table.put (table.put s.loose (plus e) (plus e ∷ [])) (minus e) (minus e ∷ []);
}

-- edge e goes; its half-edges are loose, each alone in its ring
unfoldable pub take_edge : Store → ℕ → Store
take_edge s e = record s {
  model = record s.model { edges = table.remove s.model.edges e };
  loose = table.remove (table.remove s.loose (plus e)) (minus e);
}

-- a new loop, which is empty
unfoldable pub put_loop : Store → ℕ → ℕ → Store
put_loop s l f = record s { model = record s.model { loops = table.put s.model.loops l (record { face = f; content = cycle [] }) } }

-- half-edge h gets v as its start
unfoldable pub set_tail : Store → ℕ → ℕ → Store
set_tail s h v = let row = unwrap_or (table.get s.model.edges (edge_of h)) no_edge in record s {
  model = record s.model {
    edges = table.put s.model.edges (edge_of h) (cond (is_first h) (record row { plus_tail = v }) (record row { minus_tail = v }));
  };
}

-- what loop l held becomes loose, and l is then empty
unfoldable pub clear : Store → ℕ → Store
clear s l = record s { model = with_loop s.model l (cycle []); loose = loosened (items_of (content s.model l)) s.loose }

-- loop l takes the loose ring of h
unfoldable pub fill : Store → ℕ → ℕ → Store
fill s l h = record s { model = with_loop s.model l (cycle (loose_ring s h)); loose = table.remove s.loose (loose_key s h) }

-- loop l is lone at v
abbrev pub with_lone : Store → ℕ → ℕ → Store
with_lone s l v = record s { model = with_loop s.model l (lone v) }

-- what loop l held becomes loose; then l is lone at v, or takes the loose ring of h
abbrev pub set_lone : Store → ℕ → ℕ → Store
set_lone s l v = with_lone (clear s l) l v

abbrev pub set_ring : Store → ℕ → ℕ → Store
set_ring s l h = fill (clear s l) l h

-- if the content names a half-edge, that half-edge is there and stands in a loose ring
abbrev pub IsLoose : Store → Content → Type 0
IsLoose s (Content.Lone v) = Unit {0}
IsLoose s (Content.Ring h) = (table.has s.model.edges (edge_of (code h)) ≡ true) × (loop_of s.model (code h) ≡ 0)

abbrev pub set_content : Store → ℕ → Content → Store
set_content s l (Content.Lone v) = set_lone s l v
set_content s l (Content.Ring h) = set_ring s l (code h)

-- the row of loop l with other content
abbrev pub held_row : Model → ℕ → LoopContent → LoopRow
held_row M l c = record { face = face_of M l; content = c }

-- the loop a X b Y becomes a Y, and b X becomes the content of the empty loop l
unfoldable pub cut_to : Store → ℕ → ℕ → ℕ → Store
cut_to s a b l = let M = s.model in record s {
  model = record M {
    loops = table.put (table.put M.loops (loop_of M a) (held_row M (loop_of M a) (cycle (cut_left a b (cycle_of M a))))) l (held_row M l (cycle (cut_right a b (cycle_of M a))));
  };
}

-- the loop a X b Y becomes a Y, and b X becomes loose
unfoldable pub cut_loose : Store → ℕ → ℕ → Store
cut_loose s a b = let M = s.model in
    record s { model = with_loop M (loop_of M a) (cycle (cut_left a b (cycle_of M a))); loose = loosened (cut_right a b (cycle_of M a)) s.loose }

abbrev pub cut : Store → ℕ → ℕ → ℕ → Store
cut s a b l = cond (nat_eq l 0) (cut_loose s a b) (cut_to s a b l)

-- the loop a Y and the loop b X become a X b Y, and b's loop is empty
unfoldable pub join_loops : Store → ℕ → ℕ → Store
join_loops s a b = let M = s.model in record s {
  model = record M {
    loops = table.put (table.put M.loops (loop_of M b) (held_row M (loop_of M b) (cycle []))) (loop_of M a) (held_row M (loop_of M a) (cycle (joined a b (cycle_of M a) (cycle_of M b))));
  };
}

-- the loop a Y and the loose ring b X become the loop a X b Y
unfoldable pub join_loose : Store → ℕ → ℕ → Store
join_loose s a b = let M = s.model in
    record s { model = with_loop M (loop_of M a) (cycle (joined a b (cycle_of M a) (loose_ring s b))); loose = table.remove s.loose (loose_key s b) }

abbrev pub join : Store → ℕ → ℕ → Store
join s a b = cond (nat_eq (loop_of s.model b) 0) (join_loose s a b) (join_loops s a b)

-- what `content` answers: the vertex of a lone loop, or some item of the loop
abbrev pub Tells : LoopContent → Content → Type 0
Tells (lone v) (Content.Lone w) = w ≡ v
Tells (cycle hs) (Content.Ring h) = IsIn (code h) hs
Tells (lone v) (Content.Ring h) = ⊥
Tells (cycle hs) (Content.Lone w) = ⊥
