use Rattle.std.proofs.KnownBytes.{Consumes-nil}
use Rattle.script_running.proofs.RunLaws.{nothing_begins}
use Rattle.script_running.proofs.running.run.Goals as goal

pub returns-in_default-clause-runs : goal.returns-in_default-clause-runs
returns-in_default-clause-runs g c = nothing_begins _ _ _ (Consumes-nil (g.R.Inlet.remaining c.args.reader))

pub returns-clause-runs : goal.returns-clause-runs
returns-clause-runs g c = c.run_in.ensures.runs.0
