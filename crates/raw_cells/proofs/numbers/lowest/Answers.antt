use Rattle.raw_cells.proofs.numbers_laws.Bits.{lowest_set, lowest_none}
use Rattle.raw_cells.proofs.numbers.lowest.Goals as goal

pub returns-clause-there : goal.returns-clause-there
returns-clause-there c = lowest_set c.args.word c.requires c.ranges.word.fits

pub returns-clause-none : goal.returns-clause-none
returns-clause-none c = lowest_none c.args.word c.requires c.ranges.word.fits
