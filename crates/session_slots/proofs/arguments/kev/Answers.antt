use Rattle.session_slots.proofs.Prelude.{ap, HalfEdge, Op}
use Rattle.session_slots.proofs.arguments.kev.Goals as goal

pub returns : goal.returns
returns c = ap (λ (h : HalfEdge). Op.Kev h) c.of_code.ensures
