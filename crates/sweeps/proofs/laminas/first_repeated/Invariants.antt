use Rattle.sweeps.proofs.Prelude.{◌≡◌, ◌≤◌, [], length, take, drop, ◌-◌, first_repeated}
use Rattle.sweeps.proofs.laminas.first_repeated.Given as goal

abbrev pub invariant-points : goal.invariant-points
invariant-points l = (first_repeated [] 0 l.points ≡ first_repeated (take l.place l.points) l.place (drop l.place l.points)) × (l.place ≤ length l.points)

abbrev pub decreases-points : goal.decreases-points
decreases-points l = length l.points - l.place
