-- What C gives, as the kernel takes it.
use Rattle.std.specs.Prelude.{◌-◌, ℕ, cond, nat_lt, List, map}
use Rattle.session_slots.specs.Common.Below.{half, Corner, Point, Place}

-- the points of a polygon, in the order in which C gives them
abbrev pub point_of : Place → Point
point_of p = record { x = p.x; y = p.y; z = p.z }

abbrev pub polygon_of : List Place → List Point
polygon_of ps = map point_of ps

-- the corner that C means: a number below 2^31 is the corner at the tail of a half-edge, a greater one that of a lone loop
abbrev pub corner_of : ℕ → Corner
corner_of n = cond (nat_lt n 2147483648) (Corner.At (half n)) (Corner.Lone (n - 2147483648))
