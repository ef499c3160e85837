-- What is read off the corners of a face before it is swept.
use Rattle.std.specs.Prelude.{◌+◌, ℕ, Bool, not, List, length, min}
use Rattle.std.specs.Option.{option_or}
use Rattle.euler_operators.specs.Common.{Point, is_in_range, moved, Model, point_of}
use Rattle.shapes.specs.Common.{first_such}
use Rattle.sweeps.specs.declared.corners.Tally.{Tally}

-- the point of a vertex, moved along d, is out of range
abbrev pub is_far : Model → Point → ℕ → Bool
is_far M d v = not (is_in_range (moved (point_of M v) d))

-- the tally of the corners at some vertices: how many there are, up to one more than the limit of numbers, and the first that is far
unfoldable pub tally : Model → Point → List ℕ → Tally
tally M d vs = record { count = min (length vs) 1000001; far = first_such (is_far M d) vs }

-- the tally of some corners and then some others
unfoldable pub joined : Tally → Tally → Tally
joined a b = record { count = min (a.count + b.count) 1000001; far = option_or a.far b.far }
