use Rattle.raw_ring.proofs.Blocks.{found_all, put_node-drop, AreNodes-put}
use Rattle.raw_ring.proofs.nodes.Nodes.write.Goals as goal

pub write-requires : goal.write-requires
write-requires c = found_all _ _ _ c.self.invariant.apart (rw (← c.self.view_is) at c.requires)

pub invariant_of-self : goal.invariant_of-self
invariant_of-self c = rw (c.write.ensures.0, c.write.ensures.1) (AreNodes-put _ _ _ _ _ c.self.invariant _ _)

pub returns : goal.returns
returns c = rw (c.write.ensures.0, ← c.self.view_is) (put_node-drop _ _ _ _ c.self.invariant.apart (rw (← c.self.view_is) at c.requires))
