use Rattle.std.proofs.Common.{rules}
use Rattle.command_line.proofs.ending.complaint.Goals as goal

pub returns-in-Err-Open : goal.returns-in-Err-Open
returns-in-Err-Open c = search rules
