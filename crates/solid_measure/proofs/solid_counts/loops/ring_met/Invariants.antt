use Rattle.solid_measure.proofs.Prelude.{◌≡◌, length, before, cycle_of, to_come}
use Rattle.solid_measure.proofs.solid_counts_laws.LoopRounds.{MetRound}
use Rattle.solid_measure.proofs.solid_counts.loops.ring_met.Given as goal

abbrev pub invariant-round : goal.invariant-round
invariant-round l = record {
  met : MetRound l.arena.model l.begin l.code l.sum;
  last : l.last ≡ before l.arena.model l.code;
}

abbrev pub decreases-round : goal.decreases-round
decreases-round l = length (to_come l.begin (cycle_of l.arena.model l.begin) l.code)
