use Rattle.euler_conditions.proofs.Prelude.{◌≡◌, drop, first_refusal, faces_known}
use Rattle.euler_conditions.proofs.parts.faces_known.Given as goal

abbrev pub invariant-faces : goal.invariant-faces
invariant-faces l = first_refusal (faces_known l.arena.model l.faces) ≡ first_refusal (faces_known l.arena.model (drop l.i l.faces))
