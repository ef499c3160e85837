use Rattle.std.proofs.Common.{refl}
use Rattle.session_slots.proofs.slot.copy_front.Goals as goal

pub returns-clause-value : goal.returns-clause-value
returns-clause-value c = refl
