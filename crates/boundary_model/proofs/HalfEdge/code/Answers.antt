use Rattle.std.proofs.Common.{rules}
use Rattle.boundary_model.specs.HalfEdge.{code}
use Rattle.boundary_model.proofs.HalfEdge.code.Goals as goal

pub returns-then-self : goal.returns-then-self
unfolding code
returns-then-self c = search rules

pub returns-else-self : goal.returns-else-self
unfolding code
returns-else-self c = search rules
