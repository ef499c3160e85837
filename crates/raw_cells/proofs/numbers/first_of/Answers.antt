use Rattle.raw_cells.proofs.numbers_laws.Words.{first_is}
use Rattle.raw_cells.proofs.numbers.first_of.Goals as goal

pub returns : goal.returns
returns c = first_is c.args.words.now c.args.index c.lowest.result c.lowest.ensures.within c.lowest.ensures.there c.lowest.ensures.none
