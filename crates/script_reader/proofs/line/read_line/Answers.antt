use Rattle.script_reader.proofs.AsciiLaws.{told_not_ascii}
use Rattle.script_reader.proofs.line.read_line.Goals as goal

pub returns-then-not-is_ascii : goal.returns-then-not-is_ascii
returns-then-not-is_ascii c = told_not_ascii c.args.line.now (cc) (cc)
