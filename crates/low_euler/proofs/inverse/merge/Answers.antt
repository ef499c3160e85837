use Rattle.low_euler.proofs.Prelude.{ap, inverse, Part}
use Rattle.low_euler.proofs.inverse.merge.Goals as goal

pub returns-clause-is : goal.returns-clause-is
unfolding inverse
returns-clause-is c = ap (Part c.args.kept c.args.gone) c.requires.listed
