use Rattle.script_laws.proofs.Told.{runs_tell, broken_runs_tell, failed_runs_tell}
use Rattle.script_laws.proofs.runs_tell.Goals as goal

pub returns : goal.returns
returns c = record { ended = runs_tell; broken = broken_runs_tell; failed = failed_runs_tell }
