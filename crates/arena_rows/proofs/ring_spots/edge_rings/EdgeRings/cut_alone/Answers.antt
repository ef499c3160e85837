use Rattle.arena_rows.proofs.Prelude.{sym, ◌∙◌, Spots, ring, labelled, spliced}
use Rattle.arena_rows.proofs.ring_spots_laws.RingViews.{seen_next, seen_as, known_as}
use Rattle.arena_rows.proofs.ring_spots_laws.LiveEdges.{edges_cut}
use Rattle.arena_rows.proofs.ring_spots.edge_rings.EdgeRings.cut_alone.Goals as goal

pub cut_alone-requires-clause-follows : goal.cut_alone-requires-clause-follows
cut_alone-requires-clause-follows c = sym (seen_next c.self.inside.labels.loops.items c.self.inside.rings c.args.a) ∙ (rw (← c.self.view_is) at c.requires.follows)

pub invariant_of-self : goal.invariant_of-self
invariant_of-self c =
    let spots = seen_as (λ (s : Spots). labelled (spliced s c.args.a c.args.b) c.args.l (ring (spliced s c.args.a c.args.b) c.args.b)) c.self.inside.labels.loops.items c.cut_alone.new.labels.loops.items c.self.inside.rings c.cut_alone.new.rings c.cut_alone.ensures.spots in
    record { labelled = c.cut_alone.ensures.whole; edges = edges_cut _ _ c.self.invariant.edges _ c.args.a c.args.b c.args.l _ spots (known_as c.self.inside.labels.loops.items c.cut_alone.new.labels.loops.items c.self.inside.rings c.cut_alone.new.rings c.cut_alone.ensures.known) }

pub returns-clause-spots : goal.returns-clause-spots
returns-clause-spots c = rw (← c.self.view_is) (seen_as (λ (s : Spots). labelled (spliced s c.args.a c.args.b) c.args.l (ring (spliced s c.args.a c.args.b) c.args.b)) c.self.inside.labels.loops.items c.cut_alone.new.labels.loops.items c.self.inside.rings c.cut_alone.new.rings c.cut_alone.ensures.spots)

pub returns-clause-known : goal.returns-clause-known
returns-clause-known c = rw (← c.self.view_is) (known_as c.self.inside.labels.loops.items c.cut_alone.new.labels.loops.items c.self.inside.rings c.cut_alone.new.rings c.cut_alone.ensures.known)
