use Rattle.std.proofs.Common.{arith, rules}
use Rattle.script_reader.proofs.LinesLaws.{none_read, all_within, one_past, failed_not_ended}
use Rattle.script_reader.proofs.lines.Lines.fill.Goals as goal

pub returns-in-Err-clause-end : goal.returns-in-Err-clause-end
returns-in-Err-clause-end g c = λ e. absurd (failed_not_ended e)

pub returns-in-Ok-eq0-clause-reads : goal.returns-in-Ok-eq0-clause-reads
returns-in-Ok-eq0-clause-reads g c = let read = c.in-Ok-eq0.ensures in none_read _ _ c.args.self.now.taken _ _ _ _ read.1 read.2 read.3 (assumption)

pub returns-in-Ok-eq0-clause-end : goal.returns-in-Ok-eq0-clause-end
returns-in-Ok-eq0-clause-end g c = λ e. c.in-Ok-eq0.ensures.5 (assumption)

pub returns-then-self-gt-SCRIPT_LIMIT-clause-reads : goal.returns-then-self-gt-SCRIPT_LIMIT-clause-reads
returns-then-self-gt-SCRIPT_LIMIT-clause-reads g c =
    let read = c.in-Ok.ensures in
    one_past _ _ c.args.self.now.taken _ c.in-Ok.n _ c.read_from.new.self.unread _ read.0 (omega arith) read.1 read.2 read.3 (search rules) (omega arith) (omega arith) (assumption)

pub returns-else-self-gt-SCRIPT_LIMIT-clause-reads : goal.returns-else-self-gt-SCRIPT_LIMIT-clause-reads
returns-else-self-gt-SCRIPT_LIMIT-clause-reads g c =
    let read = c.in-Ok.ensures in
    all_within _ _ c.args.self.now.taken _ c.in-Ok.n _ _ read.0 (omega arith) read.1 read.2 read.3 (omega arith)
