use Rattle.raw_ring.proofs.Mapping.{row_live}
use Rattle.raw_ring.proofs.Walking.{walk_begins, code_there}
use Rattle.raw_ring.proofs.rings.Rings.walk.Goals as goal

pub place-requires : goal.place-requires
place-requires c = row_live _ c.self.inside.nodes _ (rw (← c.self.view_is) at c.requires)

pub invariant_of-result : goal.invariant_of-result
invariant_of-result c = walk_begins _ _ _ _ c.place.ensures.2 c.self.invariant (rw (← c.self.view_is) at c.requires)

pub returns-clause-code : goal.returns-clause-code
returns-clause-code c = code_there _ _ _ _ c.place.ensures.2 c.self.invariant
