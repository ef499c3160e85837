use Rattle.session_slots.proofs.Prelude.{arith, common_steps}
use Rattle.session_slots.proofs.answers.halves.Goals as goal

pub returns-else-number-ge0 : goal.returns-else-number-ge0
returns-else-number-ge0 c = grind (arith, common_steps)
