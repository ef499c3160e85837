use Rattle.session_slots.proofs.FaceRows.{FaceRound}
use Rattle.session_slots.proofs.cycles.write_loops.Given as goal

abbrev pub invariant-loops : goal.invariant-loops
invariant-loops l = FaceRound l.arena.model l.f l.l-iterator l.fn.rows l.rows l.end
