use Rattle.session_slots.proofs.Prelude.{length, cycle_of, to_come}
use Rattle.session_slots.proofs.CycleRounds.{CycleRound}
use Rattle.session_slots.proofs.cycles.write_from.Given as goal

abbrev pub invariant-round : goal.invariant-round
invariant-round g l = CycleRound (g.T.Written.told l.arena.model) l.arena.model l.first l.place l.at l.fn.buf l.buf l.end

abbrev pub decreases-round : goal.decreases-round
decreases-round g l = length (to_come l.first (cycle_of l.arena.model l.first) l.at)
