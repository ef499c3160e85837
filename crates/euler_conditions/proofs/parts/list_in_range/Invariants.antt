use Rattle.euler_conditions.proofs.Prelude.{◌≡◌, drop, first_refusal, numbers_in_range}
use Rattle.euler_conditions.proofs.parts.list_in_range.Given as goal

abbrev pub invariant-faces : goal.invariant-faces
invariant-faces l = first_refusal (numbers_in_range l.faces) ≡ first_refusal (numbers_in_range (drop l.i l.faces))
