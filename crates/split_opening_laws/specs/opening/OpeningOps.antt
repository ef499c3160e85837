-- The Euler operators by which a solid opens along one cycle of section edges.
use Rattle.std.specs.Prelude.{ℕ, List, ◌++◌, length}
use Rattle.euler_operators.specs.Common.{Model}
use Rattle.euler_operators.specs.declared.Op.{Op}
use Rattle.shapes.specs.Common.{Taken}
use Rattle.split_opening_laws.specs.strips.StripOps.{strip_ops, copy_ops}
use Rattle.split_opening_laws.specs.caps.CapOps.{cap_ops}

-- a strip is cut off above each edge, each vertex gets a copy, and the strips become two caps
unfoldable pub opening_ops : Model → ℕ → Taken → List ℕ → List Op
opening_ops M s c bs = let m = length bs in strip_ops M s c bs m ++ copy_ops M c bs m ++ cap_ops c m
