use Rattle.std.proofs.Common.{refl}
use Rattle.plane_split.proofs.solid_opening.cycle.counted_on.Goals as goal

pub returns : goal.returns
returns c = refl
