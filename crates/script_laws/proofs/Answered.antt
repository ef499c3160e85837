-- What a run to the end leaves.
use Rattle.script_laws.proofs.Prelude.{ℕ, false, List, Option, Result, Ok, Err, IfOk, refl, Summary, Answered}
use Rattle.script_running.specs.Runs.{Runs, Served}
use Rattle.script_running.specs.declared.running.RunFault.{RunFault}
use Rattle.script_laws.proofs.Ran.{runs_answer}
use Rattle.script_laws.proofs.Told.{runs_tell}

served : (reader old new : Option (List ℕ)) (summary : Summary) → Served reader old new false summary → Answered reader old new summary
served reader old new summary run = record {
  given = run.moves.given;
  left = run.moves.left;
  out = run.moves.out;
  consumed = run.moves.consumed;
  ended = (run.finished refl).0;
  appended = run.moves.appended;
  told = runs_tell reader old new summary run;
  exact = runs_answer reader old new summary run;
}

pub all_answered : (reader old new : Option (List ℕ)) (result : Result Summary RunFault) → Runs reader old new false result → IfOk result (λ summary. Answered reader old new summary)
all_answered reader old new (Ok summary) run = served reader old new summary run
all_answered reader old new (Err fault) run = tt
