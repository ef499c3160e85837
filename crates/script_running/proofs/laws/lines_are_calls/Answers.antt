use Rattle.script_running.proofs.Histories.{lines_are_calls, lines_lead_on, histories_make_consistent}
use Rattle.script_running.proofs.laws.lines_are_calls.Goals as goal

pub returns : goal.returns
returns c =
    let calls = lines_are_calls c.commands_are_calls.ensures in
    let consistent = histories_make_consistent c.histories_are_consistent.ensures.consistent in
    record { calls = calls; lead = lines_lead_on calls consistent; consistent = consistent }
