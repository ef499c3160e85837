use Rattle.low_euler.proofs.Prelude.{ap, inverse, Kemr}
use Rattle.low_euler.proofs.inverse.mekr.Goals as goal

pub returns-clause-is : goal.returns-clause-is
unfolding inverse
returns-clause-is c = ap (Kemr c.args.h) c.corner_loop-ring.ensures.is
