use Rattle.std.proofs.Common.{◌*◌, ◌/◌, ◌%◌, ◌^◌, bit_or, length-set, get_or-set_other}
use Rattle.raw_cells.proofs.numbers_laws.Words.{uses_set}
use Rattle.raw_cells.proofs.numbers.set.Goals as goal

pub returns-clause-uses : goal.returns-clause-uses
returns-clause-uses c = uses_set c.args.words.now.items c.args.number c.requires c.index_mut.result.now c.index_mut.ensures.value

pub returns-clause-others : goal.returns-clause-others
returns-clause-others c = λ i ne. get_or-set_other c.args.words.now.items (c.args.number / 64) i (bit_or c.index_mut.result.now (1 * 2 ^ (c.args.number % 64) % 2 ^ 64)) 0 ne

pub returns-clause-len : goal.returns-clause-len
returns-clause-len c = length-set _ _ _
