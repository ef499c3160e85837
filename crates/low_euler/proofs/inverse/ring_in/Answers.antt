use Rattle.low_euler.proofs.Prelude.{ap, inverse, RingIn}
use Rattle.low_euler.proofs.inverse.ring_in.Goals as goal

pub returns-clause-is : goal.returns-clause-is
unfolding inverse
returns-clause-is c = ap (RingIn c.args.ring) c.face_of.ensures
