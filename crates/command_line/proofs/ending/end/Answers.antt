use Rattle.std.proofs.Common.{◌∙◌}
use Rattle.command_line.proofs.ending.end.Goals as goal

pub returns : goal.returns
returns g c = (c.printed-ended.result.0, c.printed-ended.ensures, c.complain-tell.ensures, c.from.ensures ∙ c.status_of.ensures)
