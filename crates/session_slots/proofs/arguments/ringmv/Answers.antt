use Rattle.std.proofs.Common.{refl}
use Rattle.session_slots.proofs.arguments.ringmv.Goals as goal

pub returns-then-out-eq0 : goal.returns-then-out-eq0
returns-then-out-eq0 c = rw c.if-out-eq0.true refl
