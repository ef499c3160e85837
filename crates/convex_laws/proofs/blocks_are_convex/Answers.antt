use Rattle.convex_laws.proofs.Bends.{blocks_are_convex}
use Rattle.convex_laws.proofs.blocks_are_convex.Goals as goal

pub returns : goal.returns
returns c = blocks_are_convex
