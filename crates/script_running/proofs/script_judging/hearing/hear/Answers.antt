use Rattle.script_reader.proofs.NameLaws.{of_four}
use Rattle.script_running.proofs.Hearing.{undo_heard, redo_heard}
use Rattle.script_running.proofs.script_judging.hearing.hear.Goals as goal

pub returns-in-117 : goal.returns-in-117
returns-in-117 c = undo_heard _ _ _ _ (of_four c.args.line.now 117 110 100 111 c.in-117.len_at_least c.in-117.len_below (assumption) (assumption) (assumption) (assumption)) c.undo.ensures

pub returns-in-114 : goal.returns-in-114
returns-in-114 c = redo_heard _ _ _ _ (of_four c.args.line.now 114 101 100 111 c.in-114.len_at_least c.in-114.len_below (assumption) (assumption) (assumption) (assumption)) c.redo.ensures
