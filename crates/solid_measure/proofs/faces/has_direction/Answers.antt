use Rattle.std.proofs.Common.{rules, tests}
use Rattle.solid_measure.proofs.faces.has_direction.Goals as goal

pub returns : goal.returns
returns c = search (tests, rules)
