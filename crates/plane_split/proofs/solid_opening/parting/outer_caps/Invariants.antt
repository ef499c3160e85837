use Rattle.plane_split.proofs.Prelude.{◌≡◌, length, outer_caps, all_caps}
use Rattle.plane_split.proofs.solid_opening.parting.outer_caps.Given as goal

abbrev pub invariant-caps : goal.invariant-caps
invariant-caps l = outer_caps (all_caps l.rest) ≡ outer_caps (all_caps l.caps)

abbrev pub decreases-caps : goal.decreases-caps
decreases-caps l = length l.rest
