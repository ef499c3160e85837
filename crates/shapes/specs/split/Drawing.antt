-- The second rewriting: in each face that straddles, edges are drawn between its pairs of cut places.
use Rattle.std.specs.Prelude.{ℕ, ◌+◌, Bool, cond, ◌&&◌, nat_eq, nat_lt, List, [], ◌∷◌, ◌++◌, map, length, fold, filter}
use Rattle.euler_operators.specs.Common.{Plane, is_on, At, half, plus, Model, content, loop_of, after, is_ring_of, rings_of, face_at, has_rings, effect}
use Rattle.euler_operators.specs.declared.Op.{Op}
use Rattle.euler_operators.specs.declared.Op.TheVariants.{Mef, Mekr, RingIn}
use Rattle.shapes.specs.Faces.{start, vertices_on}
use Rattle.shapes.specs.Fresh.{Taken, Growing}
use Rattle.shapes.specs.split.Sides.{some_above, straddling_faces}
use Rattle.shapes.specs.split.Places.{place_pairs}
use Rattle.shapes.specs.split.Crossings.{with_crossings}

-- the half-edge that starts at a cut place, once the edges are cut
abbrev pub from_place : Model → Plane → ℕ → ℕ
from_place N p h = cond (is_on p (start N h)) h (after N h)

-- a face, and the pairs of half-edges between which edges are drawn in it
pub record FacePairs : Type 0 where
  pub face : ℕ
  pub pairs : List (ℕ × ℕ)

-- the pairs of half-edges that start at the pairs of cut places of face f. M is the model before, and N is M with its edges cut
unfoldable pub drawn_pairs : Model → Model → Plane → ℕ → List (ℕ × ℕ)
drawn_pairs M N p f = map (λ q. (from_place N p q.0, from_place N p q.1)) (place_pairs M p f)

-- some faces, each with these pairs
abbrev pub all_pairs : Model → Model → Plane → List ℕ → List FacePairs
all_pairs M N p fs = map (λ f. record { face = f; pairs = drawn_pairs M N p f }) fs

-- an edge from u to k, which stand in one loop. It cuts off the new face f with the loop l, which is what lies from u up to before k
abbrev pub draw_edge : ℕ → ℕ → ℕ → ℕ → ℕ → Op
draw_edge u k e f l = Mef (half u) (half k) (half (plus e)) f l

-- an edge from c to d that joins their two loops; the loop of d is a ring
abbrev pub join_edge : ℕ → ℕ → ℕ → Op
join_edge c d e = Mekr (At (half c)) (At (half d)) (half (plus e))

-- what is drawn so far, the pairs of a face that are left for the second pass, and the first face that can't be drawn, or 0
pub record Drawing : Type 0 where
  pub model : Model
  pub taken : Taken
  pub left : List (ℕ × ℕ)
  pub stuck : ℕ

abbrev pub stuck_at : ℕ → Drawing → Drawing
stuck_at f d = record d { stuck = cond (nat_eq d.stuck 0) f d.stuck }

abbrev pub in_one_loop : Model → ℕ × ℕ → Bool
in_one_loop M q = nat_eq (loop_of M q.0) (loop_of M q.1)

-- a pair in different loops is joined: if u's loop is a ring, from k to u, else from u to k
abbrev pub join_pair : Model → ℕ × ℕ → ℕ → Op
join_pair M q e = cond (is_ring_of M (face_at M q.0) (loop_of M q.0)) (join_edge q.1 q.0 e) (join_edge q.0 q.1 e)

-- first pass: a pair in different loops is joined, any other is left for the second pass
unfoldable pub join_next : Drawing → ℕ × ℕ → Drawing
join_next d q = cond (in_one_loop d.model q)
    (record d { left = d.left ++ q ∷ [] })
    (record d { model = effect d.model (join_pair d.model q (d.taken.edge + 1)); taken = record d.taken { edge = d.taken.edge + 1 } })

abbrev pub all_joined : List (ℕ × ℕ) → Drawing → Drawing
all_joined qs d = fold join_next (record d { left = [] }) qs

-- after that, a face with more than one pair must have no ring
abbrev pub ring_free : ℕ → List (ℕ × ℕ) → Drawing → Drawing
ring_free f qs d = cond (nat_lt 1 (length qs) && has_rings d.model f) (stuck_at f d) d

-- a pair cuts a new face off, with a fresh edge, face and loop
abbrev pub draw_pair : Taken → ℕ × ℕ → Op
draw_pair c q = draw_edge q.0 q.1 (c.edge + 1) (c.face + 1) (c.loop + 1)

-- second pass: a pair is drawn. If it stands in different loops, it can't be drawn
unfoldable pub draw_next : ℕ → Drawing → ℕ × ℕ → Drawing
draw_next f d q = let c = d.taken in cond (in_one_loop d.model q)
    (record d { model = effect d.model (draw_pair c q); taken = record c { face = c.face + 1; loop = c.loop + 1; edge = c.edge + 1 } })
    (stuck_at f d)

abbrev pub all_drawn : ℕ → Drawing → Drawing
all_drawn f d = fold (draw_next f) d d.left

-- the rings of face f above the plane. Such a ring is uncut, so it is above if one of its corners is
abbrev pub rings_above : Model → Plane → ℕ → List ℕ
rings_above M p f = filter (λ l. some_above M p (vertices_on M (content M l))) (rings_of M f)

-- some rings given to face k
abbrev pub with_rings : Model → List ℕ → ℕ → Model
with_rings M ls k = fold (λ N l. effect N (RingIn l k)) M ls

-- if there is one pair, the rings above the plane go to the new face
abbrev pub rings_shared : Plane → ℕ → List (ℕ × ℕ) → Drawing → Drawing
rings_shared p f qs d = cond (nat_eq (length qs) 1) (record d { model = with_rings d.model (rings_above d.model p f) d.taken.face }) d

-- face f drawn between the pairs qs
abbrev pub drawn_between : Plane → ℕ → List (ℕ × ℕ) → Drawing → Drawing
drawn_between p f qs d = rings_shared p f qs (all_drawn f (ring_free f qs (all_joined qs d)))

-- one more face
unfoldable pub next_drawn : Plane → Drawing → FacePairs → Drawing
next_drawn p d f = drawn_between p f.face f.pairs d

-- some faces drawn, in their order
abbrev pub faces_drawn : Plane → Drawing → List FacePairs → Drawing
faces_drawn p d fs = fold (next_drawn p) d fs

-- nothing is drawn yet
abbrev pub undrawn : Growing → Drawing
undrawn g = record { model = g.model; taken = g.taken; left = []; stuck = 0 }

-- the faces of solid s that straddle, rising, each with its pairs once the edges that cross the plane are cut
abbrev pub straddling_pairs : Model → ℕ → Plane → List FacePairs
straddling_pairs M s p = all_pairs M (with_crossings M s p).model p (straddling_faces M p s)

-- the edges of solid s that cross the plane are cut, and then its faces that straddle the plane are drawn, rising
unfoldable pub with_drawings : Model → ℕ → Plane → Drawing
with_drawings M s p = faces_drawn p (undrawn (with_crossings M s p)) (straddling_pairs M s p)
