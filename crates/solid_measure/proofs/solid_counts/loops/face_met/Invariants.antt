use Rattle.solid_measure.proofs.Prelude.{◌≡◌, loops_of, together, loops_met}
use Rattle.solid_measure.proofs.solid_counts.loops.face_met.Given as goal

abbrev pub invariant-loops : goal.invariant-loops
invariant-loops l = together l.sum (loops_met l.arena.model l.l-iterator) ≡ loops_met l.arena.model (loops_of l.arena.model l.f)
