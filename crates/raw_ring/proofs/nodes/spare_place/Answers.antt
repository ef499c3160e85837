use Rattle.raw_ring.proofs.Blocks.{AreNodes-block}
use Rattle.raw_ring.proofs.nodes.spare_place.Goals as goal

pub returns-clause-nodes : goal.returns-clause-nodes
returns-clause-nodes c =
    let added = c.add-base.ensures in
    rw (added.4, c.push_reserved.ensures.items, c.reserve.ensures.items) (AreNodes-block _ _ _ _ _ _ _ c.requires added.0 added.1 added.3)
