use Rattle.session_slots.proofs.Prelude.{◌≡◌, ◌+◌, ◌++◌, length, polygon_of}
use Rattle.session_slots.proofs.arguments.polygon.Given as goal

abbrev pub invariant-places : goal.invariant-places
invariant-places l = (l.polygon.items ++ polygon_of l.rest ≡ polygon_of l.places) × (length l.polygon.items + length l.rest ≡ length l.places)

abbrev pub decreases-places : goal.decreases-places
decreases-places l = length l.rest
