use Rattle.arena_rows.proofs.Prelude.{◌≡◌, sym, ◌∙◌, subst, spot, IsIn, Spots, label, ring, labelled, spliced, map_in_loops}
use Rattle.arena_rows.proofs.ring_spots_laws.RingViews.{seen_live, seen_label, seen_ring, seen_as, known_as}
use Rattle.arena_rows.proofs.ring_spots_laws.LiveEdges.{edges_cut}
use Rattle.arena_rows.proofs.ring_spots.edge_rings.EdgeRings.cut.Goals as goal

pub cut-requires-clause-a : goal.cut-requires-clause-a
cut-requires-clause-a c = sym (seen_live c.self.inside.labels.loops.items c.self.inside.rings c.args.a) ∙ (rw (← c.self.view_is) at c.requires.a)

pub cut-requires-clause-together : goal.cut-requires-clause-together
cut-requires-clause-together c = subst (IsIn c.args.b) (seen_ring c.self.inside.labels.loops.items c.self.inside.rings c.args.a) (rw (← c.self.view_is) at c.requires.together)

pub cut-requires-clause-kept : goal.cut-requires-clause-kept
cut-requires-clause-kept c =
    let there = sym (seen_live c.self.inside.labels.loops.items c.self.inside.rings c.args.a) ∙ (rw (← c.self.view_is) at c.requires.a) in
    let kept : label (spot (map_in_loops c.self.inside.labels.loops.items c.self.inside.rings)) c.args.a ≡ c.args.kept = rw (← c.self.view_is) at c.requires.kept in
    sym kept ∙ seen_label c.self.inside.labels.loops.items c.self.inside.rings c.args.a there

pub invariant_of-self : goal.invariant_of-self
invariant_of-self c =
    let spots = seen_as (λ (s : Spots). labelled (spliced s c.args.a c.args.b) c.args.l (ring (spliced s c.args.a c.args.b) c.args.b)) c.self.inside.labels.loops.items c.cut.new.labels.loops.items c.self.inside.rings c.cut.new.rings c.cut.ensures.spots in
    record { labelled = c.cut.ensures.whole; edges = edges_cut _ _ c.self.invariant.edges _ c.args.a c.args.b c.args.l _ spots (known_as c.self.inside.labels.loops.items c.cut.new.labels.loops.items c.self.inside.rings c.cut.new.rings c.cut.ensures.known) }

pub returns-clause-spots : goal.returns-clause-spots
returns-clause-spots c = rw (← c.self.view_is) (seen_as (λ (s : Spots). labelled (spliced s c.args.a c.args.b) c.args.l (ring (spliced s c.args.a c.args.b) c.args.b)) c.self.inside.labels.loops.items c.cut.new.labels.loops.items c.self.inside.rings c.cut.new.rings c.cut.ensures.spots)

pub returns-clause-known : goal.returns-clause-known
returns-clause-known c = rw (← c.self.view_is) (known_as c.self.inside.labels.loops.items c.cut.new.labels.loops.items c.self.inside.rings c.cut.new.rings c.cut.ensures.known)
