use Rattle.script_running.proofs.Prelude.{◌+◌, ◌≤◌, outgoing, reader_of, taken_of, to_come, unread_of}
use Rattle.script_running.proofs.Counting.{IsWithin}
use Rattle.script_running.proofs.RunLaws.{IsAt}
use Rattle.script_running.proofs.running.run_lines.Given as goal

abbrev pub invariant-script : goal.invariant-script
invariant-script g l = record {
  at : IsAt g.R.Inlet.remaining (g.R.Inlet.remaining (reader_of l.fn.lines)) l.lines (g.W.Write.contents l.fn.writer) (outgoing (g.W.Write.contents l.writer) l.text) l.stop l.console l.summary;
  within : IsWithin l.summary;
  bound : l.summary.lines + to_come (taken_of l.lines) (unread_of l.lines) ≤ 67108865;
}

abbrev pub decreases-script : goal.decreases-script
decreases-script g l = to_come (taken_of l.lines) (unread_of l.lines)
