use Rattle.low_euler.proofs.Prelude.{ap, inverse, Mfkrh}
use Rattle.low_euler.proofs.inverse.kfmrh.Goals as goal

pub returns-clause-is : goal.returns-clause-is
unfolding inverse
returns-clause-is c = ap (λ l. Mfkrh l c.args.killed) c.outer-ring.ensures
