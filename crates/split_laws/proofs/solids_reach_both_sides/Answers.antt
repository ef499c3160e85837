use Rattle.split_laws.proofs.drawn.Drawn.{drawn_keeps, some_above, some_below}
use Rattle.split_laws.proofs.solids_reach_both_sides.Goals as goal

pub returns : goal.returns
returns c = record { kept = drawn_keeps; above = some_above; below = some_below }
