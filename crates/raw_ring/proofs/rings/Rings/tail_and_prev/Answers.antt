use Rattle.raw_ring.proofs.Mapping.{row_live, tail_read}
use Rattle.raw_ring.proofs.Linking.{IsSome-prev}
use Rattle.raw_ring.proofs.Tying.{permutes, node_there, prev_read}
use Rattle.raw_ring.proofs.rings.Rings.tail_and_prev.Goals as goal

pub place-requires : goal.place-requires
place-requires c = row_live _ c.self.inside.nodes _ (rw (← c.self.view_is) at c.requires)

pub read-here-requires : goal.read-here-requires
read-here-requires c = node_there _ _ c.self.invariant.places _ _ c.place.ensures.2

pub read-before-requires : goal.read-before-requires
read-before-requires c = IsSome-prev _ _ _ c.self.invariant.linked c.read-here.ensures

pub returns-clause-tail : goal.returns-clause-tail
returns-clause-tail c = rw (← c.self.view_is) (tail_read _ _ _ _ (rw (← c.self.view_is) at c.requires) c.place.ensures.2 _ c.read-here.ensures)

pub returns-clause-prev : goal.returns-clause-prev
returns-clause-prev c = rw (← c.self.view_is) (prev_read _ _ c.self.invariant _ _ _ _ c.place.ensures.2 (rw (← c.self.view_is) at c.requires) c.read-here.ensures c.read-before.ensures)

pub returns-clause-permutation : goal.returns-clause-permutation
returns-clause-permutation c = rw (← c.self.view_is) (permutes _ _ c.self.invariant)
