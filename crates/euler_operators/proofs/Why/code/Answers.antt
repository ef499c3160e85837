use Rattle.std.proofs.Common.{refl}
use Rattle.euler_operators.proofs.Why.code.Goals as goal

pub returns-in-NothingToUndo : goal.returns-in-NothingToUndo
returns-in-NothingToUndo c = rw c.in-NothingToUndo.is refl
