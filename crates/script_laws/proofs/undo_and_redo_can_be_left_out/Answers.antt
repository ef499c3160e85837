use Rattle.script_laws.proofs.Alike.{undo_and_redo_can_be_left_out}
use Rattle.script_laws.proofs.undo_and_redo_can_be_left_out.Goals as goal

pub returns : goal.returns
returns c = undo_and_redo_can_be_left_out
