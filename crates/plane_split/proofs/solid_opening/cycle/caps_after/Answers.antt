use Rattle.std.proofs.Common.{refl}
use Rattle.plane_split.proofs.solid_opening.cycle.caps_after.Goals as goal

pub returns : goal.returns
returns c = refl
