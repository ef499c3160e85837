use Rattle.script_laws.proofs.Kept.{others_can_be_left_out}
use Rattle.script_laws.proofs.others_can_be_left_out.Goals as goal

pub returns : goal.returns
returns c = others_can_be_left_out
