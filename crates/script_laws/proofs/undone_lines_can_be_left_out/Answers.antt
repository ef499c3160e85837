use Rattle.script_laws.proofs.Alike.{undone_lines_can_be_left_out}
use Rattle.script_laws.proofs.undone_lines_can_be_left_out.Goals as goal

pub returns : goal.returns
returns c = undone_lines_can_be_left_out
