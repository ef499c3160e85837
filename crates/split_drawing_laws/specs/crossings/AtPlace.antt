-- A cut place after the edges are cut.
use Rattle.std.specs.Prelude.{◌≡◌, ℕ}
use Rattle.euler_operators.specs.Common.{Plane, Model, loop_of, HasHalf}
use Rattle.shapes.specs.Common.{start, place_point, from_place}

-- the half-edge that starts at the place is there, starts at the place's point, and stands in the place's loop
pub record AtPlace (M N : Model) (p : Plane) (h : ℕ) : Type 0 where
  pub there : HasHalf N (from_place N p h)
  pub starts : start N (from_place N p h) ≡ place_point M p h
  pub loop : loop_of N (from_place N p h) ≡ loop_of M h
