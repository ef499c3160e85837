-- The Euler operators by which the edges that cross a plane are cut.
use Rattle.std.specs.Prelude.{ℕ, List, [], ◌∷◌}
use Rattle.euler_operators.specs.Common.{Plane, Model}
use Rattle.euler_operators.specs.declared.Op.{Op}
use Rattle.shapes.specs.Common.{Growing, growing, crossing_edges, cut_edge, next_cut}

-- the operators that cut some edges, in their order
abbrev pub ops_from : Plane → Growing → List ℕ → List Op
ops_from p g [] = []
ops_from p g (e ∷ es) = cut_edge p g e ∷ ops_from p (next_cut p g e) es

-- the operators that cut the edges of solid s that cross the plane, in rising order
unfoldable pub crossing_ops : Model → ℕ → Plane → List Op
crossing_ops M s p = ops_from p (growing M) (crossing_edges M p s)
