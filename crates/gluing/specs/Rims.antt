-- The outer loop of a face.
use Rattle.std.specs.Prelude.{ℕ, unwrap_or}
use Rattle.euler_operators.specs.Common.{Point, same_point, Model}
use Rattle.shapes.specs.Common.{start, first_such, rim}

-- the half-edge of a face's outer loop that starts at a point
abbrev pub item_at : Model → ℕ → Point → ℕ
item_at M g p = unwrap_or (first_such (λ k. same_point (start M k) p) (rim M g)) 0
