use Rattle.gluing.proofs.Prelude.{◌≡◌, length, same_points}
use Rattle.gluing.proofs.glue_checks.outlines.same_points.Given as goal

abbrev pub invariant-points : goal.invariant-points
invariant-points l = same_points l.left l.right ≡ same_points l.points l.others

abbrev pub decreases-points : goal.decreases-points
decreases-points l = length l.left
