-- The Euler operators that make a block.
use Rattle.std.specs.Prelude.{ℕ, ℤ, pos, List, ◌++◌}
use Rattle.euler_operators.specs.Common.{Point, Model}
use Rattle.euler_operators.specs.declared.Op.{Op}
use Rattle.shapes.specs.Common.{lamina_model, lamina_face, vector, base_of}
use Rattle.sweeps_laws.specs.lamina.Path.{lamina_operators}
use Rattle.sweeps_laws.specs.prism.SweepOps.{sweep_ops}

-- the operators of the lamina of its base, and then those of the sweep of the lamina's first face
unfoldable pub block_operators : Model → ℕ → Point → ℤ → ℤ → ℤ → List Op
block_operators M s p dx dy dz = let ps = base_of p dx dy in lamina_operators M s ps ++ sweep_ops (lamina_model M s ps) (lamina_face M) (vector (pos 0) (pos 0) dz)
