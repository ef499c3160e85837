use Rattle.std.proofs.Common.{rules}
use Rattle.euler_operators.proofs.FaceList.push.Goals as goal

pub returns-clause-ok : goal.returns-clause-ok
returns-clause-ok c = search rules
