-- A loop that is being swept.
use Rattle.std.specs.Prelude.{ℕ, ◌+◌, List, ◌∷◌, ◌++◌, length, get_or, drop}
use Rattle.euler_operators.specs.Common.{Point, moved, canonical, plus, minus, Model, cycle, tail, solid_of}
use Rattle.euler_operators.specs.Table as table
use Rattle.shapes.specs.Common.{start, Taken, riser, with_sides, top_items}

-- the loop of the face at this point: up the first riser, along the top edges, down the riser at item i, and on from that item
abbrev pub lifted_part : Taken → List ℕ → ℕ → List ℕ
lifted_part c hs i = plus (riser c.edge 0) ∷ top_items c.edge (length hs) i ++ minus (riser c.edge i) ∷ drop i hs

-- the model with the sides over the items before item i, and with the riser at item i
unfoldable pub prism_part : Taken → ℕ → ℕ → Point → List ℕ → ℕ → Model → Model
prism_part c f l d hs i M = let N = with_sides c (solid_of M f) d hs i M in let h = get_or hs i 0 in record N {
  loops = table.put N.loops l (record { face = f; content = cycle (canonical (lifted_part c hs i)) });
  edges = table.put N.edges (riser c.edge i) (record { plus_tail = tail N h; minus_tail = c.vertex + 1 + i });
  vertices = table.put N.vertices (c.vertex + 1 + i) (moved (start N h) d);
}
