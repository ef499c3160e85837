use Rattle.std.proofs.Common.{sym, ◌∙◌}
use Rattle.arena_rows.proofs.ring_spots_laws.RingViews.{seen_live, seen_next, seen_permutation}
use Rattle.arena_rows.proofs.ring_spots.edge_rings.EdgeRings.prev.Goals as goal

pub prev-requires : goal.prev-requires
prev-requires c = sym (seen_live c.self.inside.labels.loops.items c.self.inside.rings c.args.code) ∙ (rw (← c.self.view_is) at c.requires)

pub returns-clause-prev : goal.returns-clause-prev
returns-clause-prev c = rw (← c.self.view_is) (seen_next c.self.inside.labels.loops.items c.self.inside.rings c.prev.result ∙ c.prev.ensures.prev)

pub returns-clause-permutation : goal.returns-clause-permutation
returns-clause-permutation c = rw (← c.self.view_is) (seen_permutation c.self.inside.labels.loops.items c.self.inside.rings c.prev.ensures.permutation)
