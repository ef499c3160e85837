-- The second rewriting of a split in terms of the tables alone: bridges and chords in the faces that straddle the plane.
use Rattle.std.specs.Prelude.{ℕ, ◌+◌, cond, nat_eq, List, [], ◌∷◌, ◌++◌, length, fold}
use Rattle.euler_operators.specs.Common.{Plane, rotate_to, canonical, upto, onward, plus, minus, Model, cycle, tail, loop_of, cycle_of, solid_of, face_at, is_ring_of, lists}
use Rattle.euler_operators.specs.Table as table
use Rattle.shapes.specs.Common.{straddling_faces, Drawing, FacePairs, all_pairs, in_one_loop, ring_free, rings_above, stuck_at, undrawn}
use Rattle.split_drawing_laws.specs.tables.Doubled.{crossings_doubled}

-- the bridge e leads from u to k, which stands in another loop: the loops Y, from u on, and X, from k on, become `+e X -e Y` under the
-- number of Y
abbrev pub with_bridge : Model → ℕ → ℕ → ℕ → Model
with_bridge M u k e = record M {
  loops = table.put (table.remove M.loops (loop_of M k)) (loop_of M u)
      (record { face = face_at M u; content = cycle (canonical (plus e ∷ rotate_to k (cycle_of M k) ++ minus e ∷ rotate_to u (cycle_of M u))) });
  edges = table.put M.edges e (record { plus_tail = tail M u; minus_tail = tail M k });
}

-- a bridge leads to a ring: from k to u if u's loop is a ring, otherwise from u to k
abbrev pub bridged : Model → ℕ × ℕ → ℕ → Model
bridged M q e = cond (is_ring_of M (face_at M q.0) (loop_of M q.0)) (with_bridge M q.1 q.0 e) (with_bridge M q.0 q.1 e)

-- first pass: a pair in different loops gets a bridge; another pair is left
unfoldable pub next_bridged : Drawing → ℕ × ℕ → Drawing
next_bridged d q = cond (in_one_loop d.model q)
    (record d { left = d.left ++ q ∷ [] })
    (record d { model = bridged d.model q (d.taken.edge + 1); taken = record d.taken { edge = d.taken.edge + 1 } })

abbrev pub all_bridged : List (ℕ × ℕ) → Drawing → Drawing
all_bridged qs d = fold next_bridged (record d { left = [] }) qs

-- the chord e leads from u to k in their loop `A B`, in which A goes from u up to before k: the loop becomes `+e B`, and `A -e` is the loop
-- l of the new face f
abbrev pub with_chord : Model → ℕ → ℕ → ℕ → ℕ → ℕ → Model
with_chord M u k e f l = record M {
  faces = table.put M.faces f (record { solid = solid_of M (face_at M u); outer = l });
  loops = table.put (table.put M.loops (loop_of M u) (record { face = face_at M u; content = cycle (canonical (plus e ∷ onward u k (cycle_of M u))) }))
      l (record { face = f; content = cycle (canonical (upto u k (cycle_of M u) ++ minus e ∷ [])) });
  edges = table.put M.edges e (record { plus_tail = tail M u; minus_tail = tail M k });
}

-- second pass: a pair gets a chord; if it stands in different loops, the face can't be drawn
unfoldable pub next_chord : ℕ → Drawing → ℕ × ℕ → Drawing
next_chord f d q = let c = d.taken in cond (in_one_loop d.model q)
    (record d { model = with_chord d.model q.0 q.1 (c.edge + 1) (c.face + 1) (c.loop + 1); taken = record c { face = c.face + 1; loop = c.loop + 1; edge = c.edge + 1 } })
    (stuck_at f d)

abbrev pub all_chords : ℕ → Drawing → Drawing
all_chords f d = fold (next_chord f) d d.left

-- the loops ls become loops of face k
abbrev pub with_loops_given : Model → List ℕ → ℕ → Model
with_loops_given M ls k = record M { loops = table.map_rows (λ l row. cond (lists ls l) (record row { face = k }) row) M.loops }

-- if there is only one pair, the rings above go to the new face
abbrev pub rings_given : Plane → ℕ → List (ℕ × ℕ) → Drawing → Drawing
rings_given p f qs d = cond (nat_eq (length qs) 1) (record d { model = with_loops_given d.model (rings_above d.model p f) d.taken.face }) d

-- one more face is cut
unfoldable pub next_face_cut : Plane → Drawing → FacePairs → Drawing
next_face_cut p d f = rings_given p f.face f.pairs (all_chords f.face (ring_free f.face f.pairs (all_bridged f.pairs d)))

-- some faces are cut, in their order
abbrev pub faces_cut : Plane → Drawing → List FacePairs → Drawing
faces_cut p d fs = fold (next_face_cut p) d fs

-- the edges of solid s that cross the plane are doubled, and then its faces that straddle are cut between their pairs, in rising order
unfoldable pub straddling_cut : Model → ℕ → Plane → Drawing
straddling_cut M s p = let g = crossings_doubled M s p in faces_cut p (undrawn g) (all_pairs M g.model p (straddling_faces M p s))
