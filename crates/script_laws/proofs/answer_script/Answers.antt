use Rattle.script_laws.proofs.Answered.{all_answered}
use Rattle.script_laws.proofs.answer_script.Goals as goal

pub returns : goal.returns
returns g c = all_answered _ _ _ c.run.result c.run.ensures.runs
