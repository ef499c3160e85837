use Rattle.std.proofs.Common.{◌≡◌, ◌++◌, length}
use Rattle.session_slots.proofs.parts.listed.Given as goal

abbrev pub invariant-faces : goal.invariant-faces
invariant-faces l = l.list ++ l.rest ≡ l.faces

abbrev pub decreases-faces : goal.decreases-faces
decreases-faces l = length l.rest
