use Rattle.std.proofs.Common.{[], ◌∷◌}
use Rattle.sweeps.proofs.blocks.base.Goals as goal

pub returns : goal.returns
returns c = λ i. c.args.corner ∷ c.sum-second.ensures i ∷ c.sum-third.ensures i ∷ c.sum-fourth.ensures i ∷ []
