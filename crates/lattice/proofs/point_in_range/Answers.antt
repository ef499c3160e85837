use Rattle.std.proofs.Common.{rules}
use Rattle.lattice.proofs.point_in_range.Goals as goal

pub returns-then-p-3 : goal.returns-then-p-3
returns-then-p-3 c = search rules
