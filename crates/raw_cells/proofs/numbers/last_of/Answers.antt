use Rattle.raw_cells.proofs.numbers_laws.Words.{last_is}
use Rattle.raw_cells.proofs.numbers.last_of.Goals as goal

pub returns : goal.returns
returns c = last_is c.args.words.now c.args.index c.highest.result c.highest.ensures.within c.highest.ensures.there c.highest.ensures.none
