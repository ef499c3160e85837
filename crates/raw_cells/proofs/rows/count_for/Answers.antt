use Rattle.std.proofs.Common.{arith}
use Rattle.raw_cells.proofs.rows.count_for.Goals as goal

pub returns-then-number-lt64 : goal.returns-then-number-lt64
returns-then-number-lt64 c = c.if-number-lt64.true

pub returns-then-number-lt1024 : goal.returns-then-number-lt1024
returns-then-number-lt1024 c = c.if-number-lt1024.true

pub returns-else-number-lt1024 : goal.returns-else-number-lt1024
returns-else-number-lt1024 c = omega (arith, c.requires)
