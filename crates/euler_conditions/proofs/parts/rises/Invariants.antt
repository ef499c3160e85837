use Rattle.euler_conditions.proofs.Prelude.{◌≡◌, ◌-◌, drop, strictly_rises}
use Rattle.euler_conditions.proofs.parts.rises.Given as goal

abbrev pub invariant-faces : goal.invariant-faces
invariant-faces l = strictly_rises l.faces ≡ strictly_rises (drop (l.i - 1) l.faces)
