use Rattle.script_running.proofs.Saying.{lines_are_told}
use Rattle.script_running.proofs.laws.lines_are_told.Goals as goal

pub returns : goal.returns
returns c = lines_are_told
