use Rattle.std.proofs.Common.{◌≤◌, ◌-◌}
use Rattle.session_slots.proofs.spokes.rising_place.Given as goal

abbrev pub invariant-halves : goal.invariant-halves
invariant-halves l = (l.low ≤ l.high) × (l.high ≤ l.greatest)

abbrev pub decreases-halves : goal.decreases-halves
decreases-halves l = l.high - l.low
