use Rattle.std.proofs.Common.{arith}
use Rattle.halfedge_arena.proofs.rooms.last_of_step.Goals as goal

pub returns-then-last-lt-NUMBER_LIMIT-clause-from : goal.returns-then-last-lt-NUMBER_LIMIT-clause-from
returns-then-last-lt-NUMBER_LIMIT-clause-from c = omega arith
