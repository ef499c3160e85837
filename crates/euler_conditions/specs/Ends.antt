-- Edges that lead from one vertex to another.
use Rattle.std.specs.Prelude.{ℕ, Bool, cond, not, ◌&&◌, nat_eq, min}
use Rattle.euler_operators.specs.Common.{mate, edge_of, Model, tail}

-- g belongs to another edge than h, and leads to the vertex far
abbrev pub leads_to : Model → ℕ → ℕ → ℕ → Bool
leads_to M h far g = not (nat_eq (edge_of g) (edge_of h)) && nat_eq (tail M (mate g)) far

-- the lesser of two edges; 0 means that there is none
abbrev pub lesser : ℕ → ℕ → ℕ
lesser least e = cond (nat_eq least 0) e (min least e)
