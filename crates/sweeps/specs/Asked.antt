-- A block as its record keeps it.
use Rattle.std.specs.Prelude.{ℕ}
use Rattle.euler_operators.specs.Common.{Point, moved}
use Rattle.shapes.specs.Common.{Taken}
use Rattle.undo_journal.specs.declared.blocks.Block.{Block}

-- the solid from a corner by sizes along x, y and z, where c are the greatest numbers taken before it
abbrev pub asked : Taken → ℕ → Point → Point → Block
asked c s p d = record { solid = s; faces = c.face; loops = c.loop; edges = c.edge; vertices = c.vertex; near = p; far = moved p d }
