use Rattle.sweeps.proofs.Prelude.{◌∙◌, back_at_mark, further_back}
use Rattle.sweeps.proofs.sweeping.sweep_in.Goals as goal

pub returns-in-Err-raise-clause-further : goal.returns-in-Err-raise-clause-further
returns-in-Err-raise-clause-further c = further_back _ _ _ c.mark-mark.ensures c.raise.ensures.further _ c.back_to.ensures

pub returns-in-Err-raise-clause-err : goal.returns-in-Err-raise-clause-err
returns-in-Err-raise-clause-err c = c.back_to.ensures ∙ back_at_mark _ _ _ c.mark-mark.ensures c.raise.ensures.further
