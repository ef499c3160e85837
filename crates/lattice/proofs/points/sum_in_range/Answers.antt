use Rattle.std.proofs.Common.{rules}
use Rattle.lattice.proofs.points.sum_in_range.Goals as goal

pub returns-then-adds_up-2 : goal.returns-then-adds_up-2
returns-then-adds_up-2 c = search rules
