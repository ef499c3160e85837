use Rattle.euler_conditions.proofs.Prelude.{◌-◌, code, steps}
use Rattle.euler_conditions.proofs.Around.{HalfRound}
use Rattle.euler_conditions.proofs.torn.loop_leads_out.Given as goal

abbrev pub invariant-round : goal.invariant-round
invariant-round l = HalfRound l.arena.model l.listed_faces l.l (code l.first) (code l.h) (steps - l.counter)
