use Rattle.low_euler.proofs.Prelude.{ap, inverse, Kfmrh}
use Rattle.low_euler.proofs.inverse.mfkrh.Goals as goal

pub returns-clause-is : goal.returns-clause-is
unfolding inverse
returns-clause-is c = ap (λ f. Kfmrh f c.args.face) c.face_of.ensures
