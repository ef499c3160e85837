use Rattle.euler_conditions.proofs.Prelude.{◌≡◌, drop, first_refusal, faces_in}
use Rattle.euler_conditions.proofs.parts.faces_in.Given as goal

abbrev pub invariant-faces : goal.invariant-faces
invariant-faces l = first_refusal (faces_in l.arena.model l.solid l.faces) ≡ first_refusal (faces_in l.arena.model l.solid (drop l.i l.faces))
