use Rattle.euler_operators.proofs.Common.{same_vector}
use Rattle.solid_measure.proofs.ShortNumbers.{widened_is}
use Rattle.solid_measure.proofs.short.widened.Goals as goal

pub returns : goal.returns
returns c =
    let n = c.args.swept.whole in let p = c.args.swept.last in
    same_vector _ _ (widened_is n.x p.x _ c.requires.whole.0 c.requires.last.0 c.from.ensures)
    (widened_is n.y p.y _ c.requires.whole.1 c.requires.last.1 c.from-2.ensures)
    (widened_is n.z p.z _ c.requires.whole.2 c.requires.last.2 c.from-3.ensures)
