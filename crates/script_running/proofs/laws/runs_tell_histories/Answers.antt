use Rattle.script_running.proofs.Histories.{runs_tell_histories}
use Rattle.script_running.proofs.laws.runs_tell_histories.Goals as goal

pub returns : goal.returns
returns c = let lines = c.lines_are_calls.ensures in runs_tell_histories (record { calls = lines.calls; consistent = lines.consistent })
