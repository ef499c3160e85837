use Rattle.script_running.proofs.Prelude.{◌≡◌, ◌∙◌, Err, Ok, ap, err_from_is_err_and, subst, sym, Consumes-nil}
use Rattle.script_running.specs.Reaching.{AsksAnswers}
use Rattle.script_running.proofs.Reaching.{finished as reached_at_the_end}
use Rattle.script_running.proofs.RunLaws.{from_start, finished, nothing_runs}
use Rattle.script_running.proofs.running.run_in.Goals as goal

pub run_lines-requires-clause-asked : goal.run_lines-requires-clause-asked
run_lines-requires-clause-asked g c = subst (λ r. AsksAnswers g.R.Inlet.remaining g.R.Inlet.asks r (g.W.Write.contents c.args.writer.now) c.args.stop) (sym c.in-Ok.ensures.reader) c.requires.asked

pub returns-in_default-clause-runs : goal.returns-in_default-clause-runs
returns-in_default-clause-runs g c = nothing_runs _ _ _ c.args.stop _ (Consumes-nil (g.R.Inlet.remaining c.args.reader)) c.requires.start

pub returns-in_err-summary-clause-runs : goal.returns-in_err-summary-clause-runs
returns-in_err-summary-clause-runs g c =
    let p = err_from_is_err_and c.from_residual.result c.from_residual.ensures.1 in
    let same : c.from_residual.result ≡ c.run_lines.result = p.1 ∙ ap Err p.2 ∙ sym c.in_err-summary.was in
    let ran = from_start g.R.Inlet.remaining c.args.reader c.in-Ok.lines (g.W.Write.contents c.args.writer.now) (g.W.Write.contents c.run_lines.new.writer) c.args.stop c.run_lines.result c.run_lines.new.console.stage c.in-Ok.ensures c.run_lines.ensures.runs in
    rw same ran

pub returns-clause-runs : goal.returns-clause-runs
returns-clause-runs g c =
    let served = from_start g.R.Inlet.remaining c.args.reader c.in-Ok.lines (g.W.Write.contents c.args.writer.now) (g.W.Write.contents c.run_lines.new.writer) c.args.stop (Ok c.in_ok-summary.summary) _ c.in-Ok.ensures c.in_ok-summary.ensures.runs in
    finished _ _ (g.W.Write.contents c.run_lines.new.writer) _ c.args.stop c.in_ok-summary.summary _ c.finish.result served c.finish.ensures.kept c.finish.ensures.ok c.finish.ensures.fault

pub returns-clause-reached : goal.returns-clause-reached
returns-clause-reached g c = reached_at_the_end _ _ c.finish.result c.finish.ensures.reached c.finish.ensures.fault
