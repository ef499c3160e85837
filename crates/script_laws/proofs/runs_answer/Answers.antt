use Rattle.script_laws.proofs.Ran.{runs_answer}
use Rattle.script_laws.proofs.runs_answer.Goals as goal

pub returns : goal.returns
returns c = runs_answer
