use Rattle.std.proofs.Common.{arith}
use Rattle.session_slots.proofs.calls.act.Goals as goal

pub returns-clause-noted : goal.returns-clause-noted
returns-clause-noted c = ((λ had. c.counted_in-slot.ensures), (λ lacking. absurd (omega (arith, lacking, c.act.ensures.had))))
