-- A model whose loops run the other way, a model that is moved, and the sum of normals.
use Rattle.std.specs.Prelude.{ℕ, List, [], ◌∷◌, map, reverse}
use Rattle.euler_operators.specs.Common.{Point, origin, moved, canonical, mate, map_rows, Model, LoopContent, LoopRow, lone, cycle}
use Rattle.shapes.specs.Common.{normal}

-- the other halves of a loop's edges, in the opposite order
abbrev pub run_back : LoopContent → LoopContent
run_back (lone v) = lone v
run_back (cycle hs) = cycle (canonical (reverse (map mate hs)))

abbrev pub row_back : LoopRow → LoopRow
row_back row = record { face = row.face; content = run_back row.content }

-- the model with each loop run the other way, so that its solids are turned inside out
unfoldable pub turned : Model → Model
turned M = record M { loops = map_rows (λ _ row. row_back row) M.loops }

-- the model with each vertex moved by d
unfoldable pub shifted : Model → Point → Model
shifted M d = record M { vertices = map_rows (λ _ p. moved p d) M.vertices }

-- the sum of the normals of some faces
abbrev pub normals_in : Model → List ℕ → Point
normals_in M [] = origin
normals_in M (f ∷ fs) = moved (normal M f) (normals_in M fs)
