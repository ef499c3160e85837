use Rattle.std.proofs.Common.{rules}
use Rattle.lattice.proofs.planes.side.Goals as goal

pub returns-then-height-gt0 : goal.returns-then-height-gt0
returns-then-height-gt0 c = search rules

pub returns-else-height-gt0 : goal.returns-else-height-gt0
returns-else-height-gt0 c = search rules
