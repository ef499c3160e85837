use Rattle.script_running.proofs.Prelude.{◌≡◌, ◌+◌, ℕ, refl, sym, ap, subst, ◌∙◌, arith, Summary, new_journal, outgoing, reader_of, no_lines}
use Rattle.script_running.proofs.Counting.{IsWithin, same_counts, counted_within, one_more}
use Rattle.script_running.proofs.RunLaws.{Progress, Heard, begins, flushed, turn_of, goes_on, may_read, heard_line, heard_long, ends, read_fails, too_long, telling_fails, stops_there, flush_fails, falls}
use Rattle.script_running.proofs.running.run_lines.Goals.{in-Line, in-Long}
use Rattle.script_running.proofs.Reaching.{failed_write, left}
use Rattle.script_reader.specs.declared.lines.Found.TheVariants as found
use Rattle.script_reader.proofs.EndLaws.{no_whole_line}
use Rattle.script_running.proofs.running.run_lines.Goals as goal

pub script-init : goal.script-init
script-init g c =
    let e = c.default-summary.ensures in
    let zero = same_counts c.default-summary.result no_lines e.0 e.1.0 e.1.1.0 e.1.1.1 in
    let fresh = c.requires.fresh in
    record {
      at = record {
        session = new_journal;
        there = c.requires.start;
        progress = subst (λ (n : Summary). Progress g.R.Inlet.remaining (g.R.Inlet.remaining (reader_of c.args.lines.now)) c.args.lines.now (g.W.Write.contents c.args.writer.now) (outgoing (g.W.Write.contents c.args.writer.now) c.new-text.result) c.args.stop new_journal n) (sym zero)
            (begins g.R.Inlet.remaining _ c.args.lines.now (g.W.Write.contents c.args.writer.now) c.new-text.result c.args.stop new_journal fresh refl c.new-text.ensures);
      };
      within = subst IsWithin (sym zero) (record { refused = omega arith; faults = omega arith; memory = omega arith });
      bound = rw (zero, fresh.taken, fresh.unread) (omega arith);
    }

pub advance-requires-clause-asked : goal.advance-requires-clause-asked
advance-requires-clause-asked g c = λ lacks opened.
    let at = flushed g.R.Inlet.remaining _ c.script.lines _ (outgoing (g.W.Write.contents c.script.writer) c.script.text) (outgoing (g.W.Write.contents c.flush.new.writer) c.flush.new.text) _ _ _ c.script.invariant.at.progress c.in_default.ensures.tells in
    may_read g.R.Inlet.remaining g.R.Inlet.asks _ c.script.lines _ (outgoing (g.W.Write.contents c.flush.new.writer) c.flush.new.text) c.args.stop _ _ c.requires.asked at (c.in_default.ensures.none lacks) lacks opened

pub returns-in-Err-clause-runs : goal.returns-in-Err-clause-runs
returns-in-Err-clause-runs g c =
    flush_fails g.R.Inlet.remaining _ c.script.lines _ (outgoing (g.W.Write.contents c.script.writer) c.script.text) (outgoing (g.W.Write.contents c.flush.new.writer) c.flush.new.text) c.args.stop _ _ c.in-Err.fault _ c.script.invariant.at.there c.script.invariant.at.progress c.in-Err.ensures.tells c.in-Err.ensures.fault

pub returns-in-End-clause-runs : goal.returns-in-End-clause-runs
returns-in-End-clause-runs g c =
    let at = flushed g.R.Inlet.remaining _ c.script.lines _ (outgoing (g.W.Write.contents c.script.writer) c.script.text) (outgoing (g.W.Write.contents c.flush.new.writer) c.flush.new.text) _ _ _ c.script.invariant.at.progress c.in_default.ensures.tells in
    ends g.R.Inlet.remaining _ c.script.lines c.advance.new.self _ (outgoing (g.W.Write.contents c.flush.new.writer) c.flush.new.text) _ _ _ _ c.script.invariant.at.there at c.in-End.ensures
    (c.in_default.ensures.none (no_whole_line g.R.Inlet.remaining c.script.lines c.advance.new.self found.End tt c.in-End.ensures))

pub returns-in-Read-clause-runs : goal.returns-in-Read-clause-runs
returns-in-Read-clause-runs g c =
    let at = flushed g.R.Inlet.remaining _ c.script.lines _ (outgoing (g.W.Write.contents c.script.writer) c.script.text) (outgoing (g.W.Write.contents c.flush.new.writer) c.flush.new.text) _ _ _ c.script.invariant.at.progress c.in_default.ensures.tells in
    read_fails g.R.Inlet.remaining _ c.script.lines c.advance.new.self _ (outgoing (g.W.Write.contents c.flush.new.writer) c.flush.new.text) _ _ _ _ c.script.invariant.at.there at c.in-Read.ensures
    (c.in_default.ensures.none (no_whole_line g.R.Inlet.remaining c.script.lines c.advance.new.self found.Read tt c.in-Read.ensures))

pub returns-in-TooLong-clause-runs : goal.returns-in-TooLong-clause-runs
returns-in-TooLong-clause-runs g c =
    let at = flushed g.R.Inlet.remaining _ c.script.lines _ (outgoing (g.W.Write.contents c.script.writer) c.script.text) (outgoing (g.W.Write.contents c.flush.new.writer) c.flush.new.text) _ _ _ c.script.invariant.at.progress c.in_default.ensures.tells in
    too_long g.R.Inlet.remaining _ c.script.lines c.advance.new.self _ (outgoing (g.W.Write.contents c.flush.new.writer) c.flush.new.text) _ _ _ _ c.script.invariant.at.there at c.in-TooLong.ensures
    (c.in_default.ensures.none (no_whole_line g.R.Inlet.remaining c.script.lines c.advance.new.self found.TooLong tt c.in-TooLong.ensures))

pub returns-in-Err-say-clause-runs : goal.returns-in-Err-say-clause-runs
returns-in-Err-say-clause-runs g c =
    let told : Heard g.R.Inlet.remaining c.script.lines c.advance.new.self c.script.invariant.at.session c.match-advance.console = elim c.match-advance.branch [
      | in-Line w ↦ heard_line g.R.Inlet.remaining _ _ _ w.line.result.now c.script.console w.hear.new.console _ w.hear.result w.in-Line.ensures w.line.ensures c.script.invariant.at.there w.hear.ensures w.console-is
      | in-Long w ↦ heard_long g.R.Inlet.remaining _ _ _ _ c.script.console _ w.in-Long.ensures w.code.ensures c.script.invariant.at.there w.console-is
    ] in
    let at = flushed g.R.Inlet.remaining _ c.script.lines _ (outgoing (g.W.Write.contents c.script.writer) c.script.text) (outgoing (g.W.Write.contents c.flush.new.writer) c.flush.new.text) _ _ _ c.script.invariant.at.progress c.in_default.ensures.tells in
    let turn = turn_of g.R.Inlet.remaining _ c.script.lines c.advance.new.self _ _ _ _ _ c.match-advance.console.answer told.session at told.hears in
    telling_fails g.R.Inlet.remaining _ c.advance.new.self _ (outgoing (g.W.Write.contents c.flush.new.writer) c.flush.new.text) (outgoing (g.W.Write.contents c.say.new.writer) c.say.new.text) _ _ _ c.match-advance.console.answer told.session c.in-Err-say.fault _ told.there turn
    (c.in-Err-say.ensures.tells told.session told.there) c.in-Err-say.ensures.fault

pub returns-then-stops-clause-runs : goal.returns-then-stops-clause-runs
returns-then-stops-clause-runs g c =
    let told : Heard g.R.Inlet.remaining c.script.lines c.advance.new.self c.script.invariant.at.session c.match-advance.console = elim c.match-advance.branch [
      | in-Line w ↦ heard_line g.R.Inlet.remaining _ _ _ w.line.result.now c.script.console w.hear.new.console _ w.hear.result w.in-Line.ensures w.line.ensures c.script.invariant.at.there w.hear.ensures w.console-is
      | in-Long w ↦ heard_long g.R.Inlet.remaining _ _ _ _ c.script.console _ w.in-Long.ensures w.code.ensures c.script.invariant.at.there w.console-is
    ] in
    let at = flushed g.R.Inlet.remaining _ c.script.lines _ (outgoing (g.W.Write.contents c.script.writer) c.script.text) (outgoing (g.W.Write.contents c.flush.new.writer) c.flush.new.text) _ _ _ c.script.invariant.at.progress c.in_default.ensures.tells in
    let turn = turn_of g.R.Inlet.remaining _ c.script.lines c.advance.new.self _ _ _ _ _ c.match-advance.console.answer told.session at told.hears in
    stops_there g.R.Inlet.remaining _ c.advance.new.self _ (outgoing (g.W.Write.contents c.flush.new.writer) c.flush.new.text) (outgoing (g.W.Write.contents c.say.new.writer) c.say.new.text) (g.W.Write.contents c.leave.new.writer) _ _ _ _ c.match-advance.console.answer told.session c.leave.result _ told.there
    turn (sym c.stops.ensures ∙ c.if-stops.true) (c.in_default-say.ensures.tells told.session told.there) c.count.ensures c.leave.ensures.puts c.leave.ensures.ok c.leave.ensures.fault

pub returns-in-Err-clause-reached : goal.returns-in-Err-clause-reached
returns-in-Err-clause-reached g c = failed_write _ _ c.in-Err.fault c.in-Err.ensures.fault

pub returns-in-Read-clause-reached : goal.returns-in-Read-clause-reached
returns-in-Read-clause-reached g c = c.in_default.ensures.reached (no_whole_line g.R.Inlet.remaining c.script.lines c.advance.new.self found.Read tt c.in-Read.ensures)

pub returns-in-TooLong-clause-reached : goal.returns-in-TooLong-clause-reached
returns-in-TooLong-clause-reached g c = c.in_default.ensures.reached (no_whole_line g.R.Inlet.remaining c.script.lines c.advance.new.self found.TooLong tt c.in-TooLong.ensures)

pub returns-in-Err-say-clause-reached : goal.returns-in-Err-say-clause-reached
returns-in-Err-say-clause-reached g c = failed_write _ _ c.in-Err-say.fault c.in-Err-say.ensures.fault

pub returns-then-stops-clause-reached : goal.returns-then-stops-clause-reached
returns-then-stops-clause-reached g c = left _ _ c.leave.result c.leave.ensures.fault

pub count-requires-clause-lines : goal.count-requires-clause-lines
count-requires-clause-lines g c =
    let told : Heard g.R.Inlet.remaining c.script.lines c.advance.new.self c.script.invariant.at.session c.match-advance.console = elim c.match-advance.branch [
      | in-Line w ↦ heard_line g.R.Inlet.remaining _ _ _ w.line.result.now c.script.console w.hear.new.console _ w.hear.result w.in-Line.ensures w.line.ensures c.script.invariant.at.there w.hear.ensures w.console-is
      | in-Long w ↦ heard_long g.R.Inlet.remaining _ _ _ _ c.script.console _ w.in-Long.ensures w.code.ensures c.script.invariant.at.there w.console-is
    ] in
    let less = falls g.R.Inlet.remaining c.script.lines c.advance.new.self c.script.invariant.at.session c.match-advance.console.answer told.session told.hears in
    omega (arith, less, c.script.invariant.bound)

pub script-smaller : goal.script-smaller
script-smaller g c =
    let told : Heard g.R.Inlet.remaining c.script.lines c.advance.new.self c.script.invariant.at.session c.match-advance.console = elim c.match-advance.branch [
      | in-Line w ↦ heard_line g.R.Inlet.remaining _ _ _ w.line.result.now c.script.console w.hear.new.console _ w.hear.result w.in-Line.ensures w.line.ensures c.script.invariant.at.there w.hear.ensures w.console-is
      | in-Long w ↦ heard_long g.R.Inlet.remaining _ _ _ _ c.script.console _ w.in-Long.ensures w.code.ensures c.script.invariant.at.there w.console-is
    ] in
    falls g.R.Inlet.remaining c.script.lines c.advance.new.self c.script.invariant.at.session c.match-advance.console.answer told.session told.hears

pub script-preserved : goal.script-preserved
script-preserved g c =
    let told : Heard g.R.Inlet.remaining c.script.lines c.advance.new.self c.script.invariant.at.session c.match-advance.console = elim c.match-advance.branch [
      | in-Line w ↦ heard_line g.R.Inlet.remaining _ _ _ w.line.result.now c.script.console w.hear.new.console _ w.hear.result w.in-Line.ensures w.line.ensures c.script.invariant.at.there w.hear.ensures w.console-is
      | in-Long w ↦ heard_long g.R.Inlet.remaining _ _ _ _ c.script.console _ w.in-Long.ensures w.code.ensures c.script.invariant.at.there w.console-is
    ] in
    let at = flushed g.R.Inlet.remaining _ c.script.lines _ (outgoing (g.W.Write.contents c.script.writer) c.script.text) (outgoing (g.W.Write.contents c.flush.new.writer) c.flush.new.text) _ _ _ c.script.invariant.at.progress c.in_default.ensures.tells in
    let turn = turn_of g.R.Inlet.remaining _ c.script.lines c.advance.new.self _ _ _ _ _ c.match-advance.console.answer told.session at told.hears in
    let calm = sym c.stops.ensures ∙ c.if-stops.false in
    let less = falls g.R.Inlet.remaining c.script.lines c.advance.new.self c.script.invariant.at.session c.match-advance.console.answer told.session told.hears in
    let one : c.count.new.self.lines ≡ c.script.summary.lines + 1 = ap (λ (n : Summary). n.lines) c.count.ensures ∙ ap (λ (k : ℕ). c.script.summary.lines + k) (one_more c.match-advance.console.answer) in
    record {
      at = record {
        session = told.session;
        there = told.there;
        progress = subst (λ (n : Summary). Progress g.R.Inlet.remaining (g.R.Inlet.remaining (reader_of c.args.lines.now)) c.advance.new.self (g.W.Write.contents c.args.writer.now) (outgoing (g.W.Write.contents c.say.new.writer) c.say.new.text) c.args.stop told.session n) (sym c.count.ensures)
            (goes_on g.R.Inlet.remaining _ c.advance.new.self _ (outgoing (g.W.Write.contents c.flush.new.writer) c.flush.new.text) (outgoing (g.W.Write.contents c.say.new.writer) c.say.new.text) _ _ _ c.match-advance.console.answer told.session turn calm (c.in_default-say.ensures.tells told.session told.there));
      };
      within = subst IsWithin (sym c.count.ensures) (counted_within c.script.summary c.match-advance.console.answer c.script.invariant.within);
      bound = omega (arith, less, one, c.script.invariant.bound);
    }
