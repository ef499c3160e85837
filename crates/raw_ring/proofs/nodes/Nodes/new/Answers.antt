use Rattle.raw_ring.proofs.Blocks.{AreNodes-none}
use Rattle.raw_ring.proofs.nodes.Nodes.new.Goals as goal

pub invariant_of-result : goal.invariant_of-result
invariant_of-result c = rw (c.new.ensures.0, c.new.ensures.1, c.new-2.ensures.items) AreNodes-none
