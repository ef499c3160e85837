use Rattle.std.proofs.Common.{rules}
use Rattle.boundary_model.proofs.is_number.Goals as goal

pub returns-then-number-ge1 : goal.returns-then-number-ge1
returns-then-number-ge1 c = search rules
