use Rattle.session_slots.proofs.Prelude.{◌-◌, None, IsStartWithin}
use Rattle.session_slots.proofs.spokes.start_within.Given as goal

abbrev pub invariant-edges : goal.invariant-edges
invariant-edges l = IsStartWithin l.v l.above l.at l.arena.model None

abbrev pub decreases-edges : goal.decreases-edges
decreases-edges l = 1000000 - l.at
