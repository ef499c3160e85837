use Rattle.std.proofs.Common.{rules}
use Rattle.script_reader.proofs.line.is_comment.Goals as goal

pub returns-in-35 : goal.returns-in-35
returns-in-35 c = search rules
