use Rattle.raw_cells.proofs.Prelude.{ap, ◌∙◌, arith, continue_value, uses}
use Rattle.raw_cells.proofs.numbers_laws.Levels.{next_end, next_on}
use Rattle.raw_cells.proofs.numbers_laws.Words.{uses_past}
use Rattle.raw_cells.proofs.numbers_laws.Summed.{has_summary}
use Rattle.raw_cells.proofs.numbers.next.Goals as goal

pub returns-then-words-i : goal.returns-then-words-i
returns-then-words-i c = λ k above. uses_past c.args.words.now k (omega arith)

pub returns-in_err-above : goal.returns-in_err-above
returns-in_err-above c = next_end (uses c.args.words.now) (uses c.args.summaries.now) (has_summary _ _ c.requires) _ _ c.in_default.not-Some c.next_of.ensures _ _ (c.branch-above.ensures ∙ ap continue_value c.in_err-above.is) c.next_word.ensures c.from_residual.ensures

pub returns : goal.returns
returns c = next_on (uses c.args.words.now) (uses c.args.summaries.now) (has_summary _ _ c.requires) _ _ c.in_default.not-Some c.next_of.ensures _ _ (c.branch-above.ensures ∙ ap continue_value c.in_ok-above.is) c.next_word.ensures _ c.first_of.ensures
