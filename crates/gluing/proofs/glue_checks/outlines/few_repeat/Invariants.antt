use Rattle.gluing.proofs.Prelude.{◌≡◌, length, has_repeats}
use Rattle.gluing.proofs.glue_checks.outlines.few_repeat.Given as goal

abbrev pub invariant-points : goal.invariant-points
invariant-points l = has_repeats l.points ≡ has_repeats l.rest

abbrev pub decreases-points : goal.decreases-points
decreases-points l = length l.rest
