use Rattle.solid_measure.proofs.Prelude.{◌≡◌, ◌-◌, IsInRange, code, steps, start, read}
use Rattle.solid_measure.proofs.SweptRounds.{SweptRound}
use Rattle.solid_measure.proofs.LeastRounds.{LeastRound}
use Rattle.solid_measure.proofs.loops.walk_within.Given as goal

abbrev pub invariant-round : goal.invariant-round
invariant-round l = record {
  from : l.from ≡ start l.arena.model l.code;
  range : IsInRange l.from;
  swept : SweptRound l.arena.model l.l (code l.fn.first) l.code (steps - l.count) l.count (read l.fn.vector) l.swept;
  least : LeastRound l.arena.model l.l (code l.fn.first) l.code (steps - l.count) l.least;
}
