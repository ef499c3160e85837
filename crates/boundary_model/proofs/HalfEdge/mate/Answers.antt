use Rattle.boundary_model.proofs.Halves.{code-mate}
use Rattle.boundary_model.proofs.HalfEdge.mate.Goals as goal

pub returns : goal.returns
returns c = code-mate c.args.self.edge c.args.self.first
