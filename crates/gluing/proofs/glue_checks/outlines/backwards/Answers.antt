use Rattle.std.proofs.Common.{rules}
use Rattle.gluing.proofs.glue_checks.outlines.backwards.Goals as goal

pub returns : goal.returns
returns c = search rules
