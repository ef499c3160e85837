use Rattle.sweeps.proofs.Prelude.{arith, common_steps, joined}
use Rattle.sweeps.proofs.corners.joined.Goals as goal

pub returns : goal.returns
unfolding joined
returns c = grind (arith, common_steps)
