-- The first two steps by which a solid opens along a cycle of section edges: a strip, a face of two edges, is cut off above each
-- edge, and then each vertex of the cycle gets a copy, at which the faces above meet.
-- The below halves bs are b1 .. bm; ai is the mate of bi, and xi the start of bi. New numbers are those after c.
use Rattle.std.specs.Prelude.{ℕ, zero, suc, ◌+◌, cond, nat_lt, List, [], ◌∷◌, ◌++◌, map, length, get_or}
use Rattle.euler_operators.specs.Common.{canonical, mate, plus, minus, Table, Model, FaceRow, LoopRow, EdgeRow, cycle, tail}
use Rattle.euler_operators.specs.Table as table
use Rattle.shapes.specs.Common.{Taken, numbers_after, next_place, rewritten_row, renamed, opened_row, with_copies, both_lists}

-- table t with i rows put at the numbers after k; `row` gives each row by its place, from 0 on
abbrev pub with_rows : {X : Type 0} → Table X → ℕ → (ℕ → X) → ℕ → Table X
with_rows t k row zero = t
with_rows t k row (suc i) = table.put (with_rows t k row i) (k + suc i) (row i)

-- ---- strips

-- the first i mates, each with the half +ci that stands in its place
abbrev pub put_out : Taken → List ℕ → ℕ → List (ℕ × ℕ)
put_out c bs i = both_lists (map mate bs) (map plus (numbers_after c.edge i))

-- the strip at a place is a face fi of solid s; its loop is `ai -ci`
abbrev pub strip_face : ℕ → Taken → ℕ → FaceRow
strip_face s c j = record { solid = s; outer = c.loop + suc j }

abbrev pub strip_row : Taken → List ℕ → ℕ → LoopRow
strip_row c bs j = record { face = c.face + suc j; content = cycle (canonical (mate (get_or bs j 0) ∷ minus (c.edge + suc j) ∷ [])) }

-- the edge ci has the ends of ai
abbrev pub strip_edge : Model → List ℕ → ℕ → EdgeRow
strip_edge M bs j = record { plus_tail = tail M (mate (get_or bs j 0)); minus_tail = tail M (get_or bs j 0) }

-- the model after the first i strips are cut off
unfoldable pub strips_cut : Model → ℕ → Taken → List ℕ → ℕ → Model
strips_cut M s c bs i = record M {
  faces = with_rows M.faces c.face (strip_face s c) i;
  loops = with_rows (table.map_rows (rewritten_row (map (renamed (put_out c bs i)))) M.loops) c.loop (strip_row c bs) i;
  edges = with_rows M.edges c.edge (strip_edge M bs) i;
}

-- ---- copies

-- the edge Ei, from the vertex xi at a place to its copy yi
abbrev pub copy_riser : Taken → List ℕ → ℕ → ℕ
copy_riser c bs j = c.edge + length bs + suc j

abbrev pub riser_edge : Model → Taken → List ℕ → ℕ → EdgeRow
riser_edge M c bs j = record { plus_tail = tail M (get_or bs j 0); minus_tail = c.vertex + suc j }

-- the first i vertices of the cycle, each with its copy
abbrev pub copied : Model → Taken → List ℕ → ℕ → List (ℕ × ℕ)
copied M c bs i = both_lists (map (tail M) bs) (numbers_after c.vertex i)

-- the loop of a strip then: ai, up its copy_riser, back along -ci, and down the next copy_riser, if these risers are there already
abbrev pub raised_items : Taken → List ℕ → ℕ → ℕ → List ℕ
raised_items c bs i j = let k = next_place (length bs) j in
    mate (get_or bs j 0) ∷ cond (nat_lt j i) (plus (copy_riser c bs j) ∷ []) [] ++ minus (c.edge + suc j) ∷ cond (nat_lt k i) (minus (copy_riser c bs k) ∷ []) []

abbrev pub raised_loop : Taken → List ℕ → ℕ → ℕ → LoopRow
raised_loop c bs i j = record { face = c.face + suc j; content = cycle (canonical (raised_items c bs i j)) }

-- ci leads between copies, if these are there already
abbrev pub raised_edge : Model → List ℕ → List (ℕ × ℕ) → ℕ → EdgeRow
raised_edge M bs copies j = record { plus_tail = renamed copies (tail M (mate (get_or bs j 0))); minus_tail = renamed copies (tail M (get_or bs j 0)) }

-- all strips are cut off and the first i copies stand: what starts at a copied vertex in a face of `above` starts at the copy, except for
-- the mates, which now belong to strips
unfoldable pub copies_raised : Model → List ℕ → ℕ → Taken → List ℕ → ℕ → Model
copies_raised M above s c bs i =
    let m = length bs in
    let copies = copied M c bs i in
    record M {
      faces = with_rows M.faces c.face (strip_face s c) m;
      loops = with_rows (table.map_rows (rewritten_row (map (renamed (put_out c bs m)))) M.loops) c.loop (raised_loop c bs i) m;
      edges = with_rows (with_rows (table.map_rows (opened_row M above (map mate bs) copies) M.edges) c.edge (raised_edge M bs copies) m) (c.edge + m) (riser_edge M c bs) i;
      vertices = with_copies M copies;
    }
