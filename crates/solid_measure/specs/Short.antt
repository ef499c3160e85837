-- What fits 64 bits.
use Rattle.std.specs.Prelude.{◌≡◌, ℕ, ◌*◌, IfSome, Option}
use Rattle.euler_operators.specs.Common.{Point, Plane, IsVectorWithin, IsWithin, direction, moved}
use Rattle.solid_measure.specs.Measure.{read}
use Rattle.solid_measure.specs.declared.short.ShortPlane.{ShortPlane}
use Rattle.solid_measure.specs.declared.short.Swept.{Swept}

-- both parts of a sum
abbrev pub all_of : Swept → Point
all_of s = moved (read s.whole) s.last

-- the last part of a sum is that of n items
abbrev pub IsOfItems : ℕ → Point → Type 0
IsOfItems n p = IsVectorWithin (2000000000000000000 * n) p

-- the same plane, with numbers that may be greater
abbrev pub long : ShortPlane → Plane
long n = record { a = n.a; b = n.b; c = n.c; d = n.d }

-- the heights of points in range over the plane fit
pub record IsShort (n : ShortPlane) : Type 0 where
  pub slope : IsVectorWithin 2000000000 (direction (long n))
  pub depth : IsWithin 2000000000000000000 n.d

-- a plane in 64 bits, if there is one, is that plane
abbrev pub IsShortOf : Plane → Option ShortPlane → Type 0
IsShortOf s o = IfSome o (λ n. (long n ≡ s) × IsShort n)
