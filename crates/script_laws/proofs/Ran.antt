-- What a run writes.
use Rattle.script_laws.proofs.Prelude.{◌≡◌, ℕ, ◌-◌, ◌≤◌, false, List, length, refl, ap, ◌∙◌, arith, take_all, lines_of, within_limit, output_of, answers, RunsAnswer}

pub all_within : (given : List ℕ) → length given ≤ 67108864 → within_limit 0 given ≡ given
unfolding within_limit
all_within given h = take_all (67108864 - 0) given (omega (arith, h))

answers_is : (script : List ℕ) → output_of false (lines_of script) ≡ answers script
unfolding answers
answers_is script = refl

pub runs_answer : RunsAnswer
runs_answer reader old new summary run none =
    (run.output none).0 ∙ ap (λ (t : List ℕ). output_of false (lines_of t)) (all_within run.moves.given (run.finished refl).1) ∙ answers_is run.moves.given
