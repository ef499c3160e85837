use Rattle.raw_ring.proofs.Linking.{SetsTail-written}
use Rattle.raw_ring.proofs.nodes.Nodes.set_tail.Goals as goal

pub returns : goal.returns
returns c = SetsTail-written _ _ _ _ _ c.read-node.ensures c.write.ensures
