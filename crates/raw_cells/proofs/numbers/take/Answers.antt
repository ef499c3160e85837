use Rattle.raw_cells.proofs.Prelude.{◌<◌, ◌/◌, length, sym, arith, ◌∙◌, word_at}
use Rattle.raw_cells.proofs.numbers_laws.Summed.{take-kept, take-turned}
use Rattle.raw_cells.proofs.numbers.take.Goals as goal

pub returns-else-left-eq0-clause-summed : goal.returns-else-left-eq0-clause-summed
returns-else-left-eq0-clause-summed c =
    let below : c.args.number / 64 < length c.clear-left.new.words.items = omega (arith, c.requires.room, c.clear-left.ensures.len) in
    let some : 0 < word_at c.clear-left.new.words.items (c.args.number / 64) = omega (arith, c.clear-left.ensures.left, c.if-left-eq0.false) in
    take-kept _ _ c.requires.summed _ _ c.clear-left.ensures.others c.clear-left.ensures.len c.clear-left.ensures.uses (c.type_inv.words _ 0 below) some

pub returns-then-left-eq0-clause-summed : goal.returns-then-left-eq0-clause-summed
returns-then-left-eq0-clause-summed c =
    take-turned _ _ c.requires.summed _ _ c.clear-left.ensures.others c.clear-left.ensures.len c.clear-left.ensures.uses (sym c.clear-left.ensures.left ∙ c.if-left-eq0.true) _ (assumption) (assumption)
