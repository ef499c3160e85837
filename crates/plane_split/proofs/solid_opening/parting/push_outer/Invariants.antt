use Rattle.plane_split.proofs.Prelude.{◌≡◌, ◌++◌, length, outer_uppers}
use Rattle.plane_split.proofs.solid_opening.parting.push_outer.Given as goal

abbrev pub invariant-caps : goal.invariant-caps
invariant-caps l = l.list ++ outer_uppers l.rest ≡ l.fn.list ++ outer_uppers l.caps

abbrev pub decreases-caps : goal.decreases-caps
decreases-caps l = length l.rest
