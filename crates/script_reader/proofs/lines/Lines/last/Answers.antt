use Rattle.std.proofs.Common.{rules}
use Rattle.script_reader.proofs.lines.Lines.last.Goals as goal

pub returns-else-len-eq0-clause-answer : goal.returns-else-len-eq0-clause-answer
returns-else-len-eq0-clause-answer g c = search rules
