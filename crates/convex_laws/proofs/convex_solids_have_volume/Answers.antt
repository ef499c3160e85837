use Rattle.convex_laws.proofs.Volumes.{convex_solids_have_volume}
use Rattle.convex_laws.proofs.convex_solids_have_volume.Goals as goal

pub returns : goal.returns
returns c = convex_solids_have_volume
