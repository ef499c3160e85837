use Rattle.std.proofs.Common.{sym}
use Rattle.boundary_model.proofs.Halves.{half-plus}
use Rattle.boundary_model.proofs.HalfEdge.plus.Goals as goal

pub returns : goal.returns
returns c = sym (half-plus c.args.edge)
