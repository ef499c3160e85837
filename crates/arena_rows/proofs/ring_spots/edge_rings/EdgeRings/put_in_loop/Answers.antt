use Rattle.std.proofs.Common.{sym, ◌∙◌}
use Rattle.arena_rows.proofs.ring_spots_laws.RingViews.{seen_live, seen-put, known_as}
use Rattle.arena_rows.proofs.ring_spots_laws.LiveEdges.{edges_labelled}
use Rattle.arena_rows.proofs.ring_spots.edge_rings.EdgeRings.put_in_loop.Goals as goal

pub put_in_loop-requires-clause-there : goal.put_in_loop-requires-clause-there
put_in_loop-requires-clause-there c = sym (seen_live c.self.inside.labels.loops.items c.self.inside.rings c.args.from) ∙ (rw (← c.self.view_is) at c.requires)

pub invariant_of-self : goal.invariant_of-self
invariant_of-self c =
    let spots = seen-put c.self.inside.labels.loops.items c.self.inside.rings c.put_in_loop.new.labels.loops.items c.put_in_loop.new.rings c.args.from c.args.l c.put_in_loop.ensures.spots in
    record { labelled = c.put_in_loop.ensures.whole; edges = edges_labelled _ _ c.self.invariant.edges _ c.args.l _ spots (known_as c.self.inside.labels.loops.items c.put_in_loop.new.labels.loops.items c.self.inside.rings c.put_in_loop.new.rings c.put_in_loop.ensures.known) }

pub returns-clause-spots : goal.returns-clause-spots
returns-clause-spots c = rw (← c.self.view_is) (seen-put c.self.inside.labels.loops.items c.self.inside.rings c.put_in_loop.new.labels.loops.items c.put_in_loop.new.rings c.args.from c.args.l c.put_in_loop.ensures.spots)

pub returns-clause-known : goal.returns-clause-known
returns-clause-known c = rw (← c.self.view_is) (known_as c.self.inside.labels.loops.items c.put_in_loop.new.labels.loops.items c.self.inside.rings c.put_in_loop.new.rings c.put_in_loop.ensures.known)
