use Rattle.sweeps.proofs.Prelude.{◌∙◌, back_at_mark, further_back}
use Rattle.sweeps.proofs.blocks.block_of_in.Goals as goal

pub returns-in-Err-draw_block-clause-further : goal.returns-in-Err-draw_block-clause-further
returns-in-Err-draw_block-clause-further c = further_back _ _ _ c.mark-mark.ensures c.draw_block.ensures.further _ c.back_to.ensures

pub returns-in-Err-draw_block-clause-err : goal.returns-in-Err-draw_block-clause-err
returns-in-Err-draw_block-clause-err c = c.back_to.ensures ∙ back_at_mark _ _ _ c.mark-mark.ensures c.draw_block.ensures.further
