use Rattle.script_laws.proofs.Worked.{answered_so}
use Rattle.script_laws.proofs.answered_so.Goals as goal

pub returns : goal.returns
returns c = answered_so
