use Rattle.convex_laws.proofs.Within.{splits_stay_below}
use Rattle.convex_laws.proofs.splits_stay_below.Goals as goal

pub returns : goal.returns
returns c = splits_stay_below
