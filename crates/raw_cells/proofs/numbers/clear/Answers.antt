use Rattle.raw_cells.proofs.Prelude.{sym, length-set, get_or-set_other, get_or-set_same}
use Rattle.raw_cells.proofs.numbers_laws.Words.{uses_cleared}
use Rattle.raw_cells.proofs.numbers.clear.Goals as goal

pub returns-clause-left : goal.returns-clause-left
returns-clause-left c = sym (get_or-set_same c.args.words.now.items _ _ 0 c.requires)

pub returns-clause-uses : goal.returns-clause-uses
returns-clause-uses c = uses_cleared c.args.words.now.items c.args.number c.requires c.index.result.now c.index.ensures

pub returns-clause-others : goal.returns-clause-others
returns-clause-others c = λ i ne. get_or-set_other c.args.words.now.items _ i _ 0 ne

pub returns-clause-len : goal.returns-clause-len
returns-clause-len c = length-set _ _ _
