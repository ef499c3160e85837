-- Pairs of cut places, and of the half-edges that start there after the edges that cross the plane are cut.
use Rattle.std.specs.Prelude.{ℕ, List, [], ◌∷◌, map}
use Rattle.euler_operators.specs.Common.{Plane, Model, HasHalf}
use Rattle.shapes.specs.Common.{from_place}

-- the half-edges that start at the places of a pair, and at those of some pairs
abbrev pub pair_started : Model → Plane → ℕ × ℕ → ℕ × ℕ
pair_started N p q = (from_place N p q.0, from_place N p q.1)

abbrev pub pairs_started : Model → Plane → List (ℕ × ℕ) → List (ℕ × ℕ)
pairs_started N p qs = map (pair_started N p) qs

-- the edges of both half-edges of each pair are there
abbrev pub PairsThere : Model → List (ℕ × ℕ) → Type 0
PairsThere M [] = Unit {0}
PairsThere M (q ∷ qs) = HasHalf M q.0 × HasHalf M q.1 × PairsThere M qs
