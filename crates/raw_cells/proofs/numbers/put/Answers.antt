use Rattle.raw_cells.proofs.Prelude.{◌≡◌, ◌<◌, ◌/◌, arith, ◌∙◌, get_or_default_zero, word_at}
use Rattle.raw_cells.proofs.numbers_laws.Summed.{put-kept, put-turned}
use Rattle.raw_cells.proofs.numbers.put.Goals as goal

pub returns-then-before-eq0-clause-summed : goal.returns-then-before-eq0-clause-summed
returns-then-before-eq0-clause-summed c = put-turned _ _ c.requires.summed _ _ c.set.ensures.others c.set.ensures.len c.set.ensures.uses _ c.set-then-before-eq0.ensures.uses c.set-then-before-eq0.ensures.len

pub returns-else-before-eq0-clause-summed : goal.returns-else-before-eq0-clause-summed
returns-else-before-eq0-clause-summed c =
    let read : c.index-before.result.now ≡ word_at c.args.words.now.items (c.args.number / 64) = c.index-before.ensures ∙ get_or_default_zero _ _ _ c.requires.room in
    let some : 0 < word_at c.args.words.now.items (c.args.number / 64) = omega (arith, read, c.if-before-eq0.false) in
    put-kept _ _ c.requires.summed _ _ c.set.ensures.others c.set.ensures.len c.set.ensures.uses some
