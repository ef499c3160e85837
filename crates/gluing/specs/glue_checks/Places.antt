-- The place of a point in a list.
use Rattle.std.specs.Prelude.{ℕ, ◌+◌, cond, List, [], ◌∷◌, Option, Some, None}
use Rattle.euler_operators.specs.Common.{Point, same_point}

-- the place of the first point that equals p, counted from n on
abbrev pub place_from : ℕ → Point → List Point → Option ℕ
place_from n p [] = None
place_from n p (q ∷ qs) = cond (same_point q p) (Some n) (place_from (n + 1) p qs)
