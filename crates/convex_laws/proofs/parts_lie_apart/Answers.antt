use Rattle.convex_laws.proofs.Apart.{split_parts_lie_apart}
use Rattle.convex_laws.proofs.parts_lie_apart.Goals as goal

pub returns : goal.returns
returns c = split_parts_lie_apart
