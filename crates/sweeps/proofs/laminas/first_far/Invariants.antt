use Rattle.sweeps.proofs.Prelude.{◌≡◌, ◌+◌, length, first_far}
use Rattle.sweeps.proofs.laminas.first_far.Given as goal

abbrev pub invariant-points : goal.invariant-points
invariant-points l = (first_far 0 l.points ≡ first_far l.place l.rest) × (l.place + length l.rest ≡ length l.points)

abbrev pub decreases-points : goal.decreases-points
decreases-points l = length l.rest
