use Rattle.std.proofs.Common.{rules}
use Rattle.split_checks.proofs.place_order.points.key_of.Goals as goal

pub returns : goal.returns
returns c = search rules
