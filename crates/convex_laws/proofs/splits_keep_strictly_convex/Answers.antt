use Rattle.convex_laws.proofs.Strict.{parts_have_volume, splits_keep_strictly_convex}
use Rattle.convex_laws.proofs.splits_keep_strictly_convex.Goals as goal

pub returns : goal.returns
returns c = record { parts = splits_keep_strictly_convex; volumes = parts_have_volume }
