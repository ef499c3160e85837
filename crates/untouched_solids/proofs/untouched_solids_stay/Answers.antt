use Rattle.untouched_solids.proofs.Untouched.{untouched_stay}
use Rattle.untouched_solids.proofs.untouched_solids_stay.Goals as goal

pub returns : goal.returns
returns c = untouched_stay
