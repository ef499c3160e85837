use Rattle.gluing.proofs.Prelude.{◌≡◌, ◌||◌, length, list_any, has_repeats}
use Rattle.gluing.proofs.glue_checks_laws.Keys.{is_met}
use Rattle.gluing.proofs.glue_checks.outlines.many_repeat.Given as goal

abbrev pub invariant-points : goal.invariant-points
invariant-points l = has_repeats l.points ≡ list_any (is_met l.met) l.rest || has_repeats l.rest

abbrev pub decreases-points : goal.decreases-points
decreases-points l = length l.rest
