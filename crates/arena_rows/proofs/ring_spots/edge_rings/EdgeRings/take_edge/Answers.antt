use Rattle.arena_rows.proofs.Prelude.{sym, ◌∙◌, plus, minus, Spots, asleep}
use Rattle.arena_rows.proofs.ring_spots_laws.LiveEdges.{edges_asleep}
use Rattle.arena_rows.proofs.ring_spots_laws.RingViews.{seen_next, seen_as, known_as}
use Rattle.arena_rows.proofs.ring_spots.edge_rings.EdgeRings.take_edge.Goals as goal

pub take_edge-requires-clause-first : goal.take_edge-requires-clause-first
take_edge-requires-clause-first c = sym (seen_next c.self.inside.labels.loops.items c.self.inside.rings (plus c.args.e)) ∙ (rw (← c.self.view_is) at c.requires.first)

pub take_edge-requires-clause-second : goal.take_edge-requires-clause-second
take_edge-requires-clause-second c = sym (seen_next c.self.inside.labels.loops.items c.self.inside.rings (minus c.args.e)) ∙ (rw (← c.self.view_is) at c.requires.second)

pub invariant_of-self : goal.invariant_of-self
invariant_of-self c =
    let spots = seen_as (λ (s : Spots). asleep (asleep s (plus c.args.e)) (minus c.args.e)) c.self.inside.labels.loops.items c.take_edge.new.labels.loops.items c.self.inside.rings c.take_edge.new.rings c.take_edge.ensures.spots in
    record { labelled = c.take_edge.ensures.whole; edges = edges_asleep _ _ c.self.invariant.edges _ _ c.args.e spots (known_as c.self.inside.labels.loops.items c.take_edge.new.labels.loops.items c.self.inside.rings c.take_edge.new.rings c.take_edge.ensures.known) c.take.ensures.uses c.take.ensures.len }

pub returns-clause-spots : goal.returns-clause-spots
returns-clause-spots c = rw (← c.self.view_is) (seen_as (λ (s : Spots). asleep (asleep s (plus c.args.e)) (minus c.args.e)) c.self.inside.labels.loops.items c.take_edge.new.labels.loops.items c.self.inside.rings c.take_edge.new.rings c.take_edge.ensures.spots)

pub returns-clause-known : goal.returns-clause-known
returns-clause-known c = rw (← c.self.view_is) (known_as c.self.inside.labels.loops.items c.take_edge.new.labels.loops.items c.self.inside.rings c.take_edge.new.rings c.take_edge.ensures.known)
