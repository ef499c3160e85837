use Rattle.std.proofs.Common.{◌/◌}
use Rattle.raw_cells.proofs.numbers_laws.Words.{next_none, next_found}
use Rattle.raw_cells.proofs.numbers.next_of.Goals as goal

pub returns-then-above-eq0 : goal.returns-then-above-eq0
returns-then-above-eq0 c = next_none c.args.words.now c.args.number c.if-above-eq0.true

pub returns : goal.returns
returns c = next_found c.args.words.now c.args.number (c.type_inv.words (c.args.number / 64)).fits c.lowest.result c.lowest.ensures.there c.lowest.ensures.none
