use Rattle.raw_cells.proofs.Prelude.{ap, ◌∙◌, continue_value, uses, has_bits}
use Rattle.raw_cells.proofs.numbers_laws.Levels.{next_end, next_on}
use Rattle.raw_cells.proofs.numbers_laws.Summed.{none_in_word, next_of_all}
use Rattle.raw_cells.proofs.numbers.next_word.Goals as goal

pub returns-in_err-above : goal.returns-in_err-above
returns-in_err-above c =
    let words = c.args.summaries.now in
    next_end (uses words) (has_bits words) (none_in_word words) _ _ c.in_default.not-Some c.next_of.ensures _ _ (c.branch-above.ensures ∙ ap continue_value c.in_err-above.is) (next_of_all _ _ _ c.first_in.ensures) c.from_residual.ensures

pub returns : goal.returns
returns c =
    let words = c.args.summaries.now in
    next_on (uses words) (has_bits words) (none_in_word words) _ _ c.in_default.not-Some c.next_of.ensures _ _ (c.branch-above.ensures ∙ ap continue_value c.in_ok-above.is) (next_of_all _ _ _ c.first_in.ensures) _ c.first_of.ensures
