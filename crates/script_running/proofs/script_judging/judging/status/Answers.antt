use Rattle.std.proofs.Common.{rules}
use Rattle.script_running.proofs.script_judging.judging.status.Goals as goal

pub returns-in-Refused : goal.returns-in-Refused
returns-in-Refused c = search rules
