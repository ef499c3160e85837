use Rattle.std.proofs.Common.{refl, ℕ, Bool, List, Option, Some, None, IfSome}
use Rattle.std.specs.Fn.{FnOnceReturnsAt}
use Rattle.clap.specs.Words.{Text}
use Rattle.script_running.specs.Reaching.{AsksAnswers}
use Rattle.command_line.specs.Serving.{OpensAsking}
use Rattle.command_line.proofs.serving.follow.Goals as goal

-- what was opened asks for no more than the answers
opened_asks : {F : Type 0} (opens : Text → Option F → Type 0) (remaining : F → Option (List ℕ)) (asks : F → Option (List ℕ) → Type 0) (old : Option (List ℕ)) (name : Text) (stop : Bool) (opened : Option F)
    → OpensAsking opens remaining asks old → opens name opened → IfSome opened (λ script. AsksAnswers remaining asks script old stop)
opened_asks opens remaining asks old name stop None files h = tt
opened_asks opens remaining asks old name stop (Some script) files h = files name script stop h

pub run_opened-ended-requires-clause-asked : goal.run_opened-ended-requires-clause-asked
run_opened-ended-requires-clause-asked g c =
    opened_asks (FnOnceReturnsAt g.O.FnOnce c.args.opening) g.F.Inlet.remaining g.F.Inlet.asks _ _ _ c.opening-opened.result c.requires.files (_, c.opening-opened.ensures, c.as_str.ensures.value)

pub answer-ended-requires-clause-asked : goal.answer-ended-requires-clause-asked
answer-ended-requires-clause-asked g c = c.requires.asked c.args.choice.now.stop

pub returns-in-Some-clause-runs : goal.returns-in-Some-clause-runs
returns-in-Some-clause-runs g c = rw c.in-Some.is (c.opening-opened.result, (_, c.opening-opened.ensures, c.as_str.ensures.value), c.run_opened-ended.ensures.runs, refl)
