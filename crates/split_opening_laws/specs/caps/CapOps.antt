-- The Euler operators that make two caps of the strips along a cycle.
use Rattle.std.specs.Prelude.{ℕ, ◌+◌, ◌-◌, List, [], ◌∷◌, ◌++◌, map}
use Rattle.euler_operators.specs.Common.{half, plus, minus}
use Rattle.euler_operators.specs.declared.Op.{Op}
use Rattle.euler_operators.specs.declared.Op.TheVariants.{Kef, Kemr, Mfkrh}
use Rattle.shapes.specs.Common.{Taken, numbers_after}
use Rattle.split_opening_laws.specs.caps.Strips.{strip_riser}

-- the n risers after the first one go, so that the first strip takes in the n next ones
abbrev pub joinings : Taken → ℕ → ℕ → List Op
joinings c m n = map (λ e. Kef (half (minus e))) (numbers_after (c.edge + m + 1) n)

-- the first strip_riser goes, and the ring that it leaves becomes a face
abbrev pub partings : Taken → ℕ → List Op
partings c m = Kemr (half (plus (strip_riser c m 0))) (c.loop + m + 1) ∷ Mfkrh (c.loop + m + 1) (c.face + m + 1) ∷ []

-- all operators that make two caps of m strips
unfoldable pub cap_ops : Taken → ℕ → List Op
cap_ops c m = joinings c m (m - 1) ++ partings c m
