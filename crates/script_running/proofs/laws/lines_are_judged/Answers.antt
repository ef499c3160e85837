use Rattle.script_running.proofs.Judged.{lines_are_judged}
use Rattle.script_running.proofs.laws.lines_are_judged.Goals as goal

pub returns : goal.returns
returns c = lines_are_judged
