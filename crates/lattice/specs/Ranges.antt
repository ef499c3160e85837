-- The ranges within which sums and products of coordinates fit 128 bits.
use Rattle.std.specs.Prelude.{ℕ, ◌≤◌, ℤ, unsigned_abs}
use Rattle.lattice.specs.declared.Point.{Point}
use Rattle.lattice.specs.declared.Plane.{Plane}
use Rattle.lattice.specs.Vectors.{direction}

-- a number is at most m in magnitude
abbrev pub IsWithin : ℕ → ℤ → Type 0
IsWithin m n = unsigned_abs n ≤ m

-- each number of a vector is at most m in magnitude
abbrev pub IsVectorWithin : ℕ → Point → Type 0
IsVectorWithin m v = IsWithin m v.x × IsWithin m v.y × IsWithin m v.z

-- no number of a normal is above 10^25 in magnitude, and none of a plane across one above 10^35
abbrev pub normal_limit : ℕ
normal_limit = 10000000000000000000000000

abbrev pub offset_limit : ℕ
offset_limit = 100000000000000000000000000000000000

-- a plane for which `side` may be called
abbrev pub IsPlane : Plane → Type 0
IsPlane s = IsVectorWithin normal_limit (direction s) × IsWithin offset_limit s.d

-- a plane along which points are cut: its direction is in the range of points, and d within 3 * 10^18
abbrev pub IsCutPlane : Plane → Type 0
IsCutPlane s = IsVectorWithin 1000000000 (direction s) × IsWithin 3000000000000000000 s.d
