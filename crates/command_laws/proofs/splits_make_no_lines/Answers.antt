use Rattle.command_laws.proofs.splits_laws.Lines.{splits_make_no_lines}
use Rattle.command_laws.proofs.splits_make_no_lines.Goals as goal

pub returns : goal.returns
returns c = splits_make_no_lines
