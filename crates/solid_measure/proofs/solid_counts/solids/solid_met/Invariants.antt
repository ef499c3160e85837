use Rattle.solid_measure.proofs.Prelude.{◌≡◌, ◌+◌, length, faces_of, loops_in, rings_in, together, loops_met}
use Rattle.solid_measure.proofs.solid_counts.solids.solid_met.Given as goal

abbrev pub invariant-faces : goal.invariant-faces
invariant-faces l = record {
  met : together l.sum (loops_met l.arena.model (loops_in l.arena.model l.f-iterator)) ≡ loops_met l.arena.model (loops_in l.arena.model (faces_of l.arena.model l.s));
  rings : l.rings + length (rings_in l.arena.model l.f-iterator) ≡ length (rings_in l.arena.model (faces_of l.arena.model l.s));
}
