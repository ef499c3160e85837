-- Vectors: opposite ones, their products, and the vector from one point to another.
use Rattle.std.specs.Prelude.{ℤ, ◌-ℤ◌, ◌*ℤ◌, neg_ℤ}
use Rattle.euler_operators.specs.Common.{Point}

-- the opposite vector
abbrev pub negated : Point → Point
negated p = record { x = neg_ℤ p.x; y = neg_ℤ p.y; z = neg_ℤ p.z }

abbrev pub scaled : ℤ → Point → Point
scaled k p = record { x = k *ℤ p.x; y = k *ℤ p.y; z = k *ℤ p.z }

-- the vector from p to q
abbrev pub towards : Point → Point → Point
towards p q = record { x = q.x -ℤ p.x; y = q.y -ℤ p.y; z = q.z -ℤ p.z }
