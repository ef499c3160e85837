use Rattle.std.proofs.Common.{rules}
use Rattle.script_running.proofs.running.stops.Goals as goal

pub returns-then-stop : goal.returns-then-stop
returns-then-stop c = search rules
