use Rattle.convex_laws.proofs.Refused.{convex_splits_are_refused_for}
use Rattle.convex_laws.proofs.convex_splits_are_refused_for.Goals as goal

pub returns : goal.returns
returns c = convex_splits_are_refused_for
