-- The loops of some faces, and the half-edges that stand for their vertices.
use Rattle.std.specs.Prelude.{ℕ, Bool, ◌||◌, nat_eq, List, [], ◌∷◌, ◌++◌}
use Rattle.euler_operators.specs.Common.{edge_of, Model, tail}
use Rattle.euler_operators.specs.Table as table
use Rattle.shapes.specs.Faces.{loops_of}

-- the loops of some faces
abbrev pub loops_in : Model → List ℕ → List ℕ
loops_in M [] = []
loops_in M (f ∷ fs) = loops_of M f ++ loops_in M fs

-- the least edge with an end at v, or 0
unfoldable pub first_edge : Model → ℕ → ℕ
first_edge M v = table.first_where (λ _ row. nat_eq row.plus_tail v || nat_eq row.minus_tail v) M.edges

-- whether h is of the least edge at its vertex: just one of the half-edges at a vertex is
unfoldable pub leads : Model → ℕ → Bool
leads M h = nat_eq (edge_of h) (first_edge M (tail M h))
