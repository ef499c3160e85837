use Rattle.std.proofs.Common.{sym}
use Rattle.boundary_model.proofs.Halves.{half-minus}
use Rattle.boundary_model.proofs.HalfEdge.minus.Goals as goal

pub returns : goal.returns
returns c = sym (half-minus c.args.edge)
