use Rattle.arena_rows.proofs.Prelude.{sym, ◌∙◌, plus, minus, Spots, woken}
use Rattle.arena_rows.proofs.ring_spots_laws.RingViews.{seen_live, seen_known, seen_as, known_as}
use Rattle.arena_rows.proofs.ring_spots_laws.LabelEdges.{labelled-woken, loops-woken_both}
use Rattle.arena_rows.proofs.ring_spots_laws.LiveEdges.{edges_woken}
use Rattle.arena_rows.proofs.ring_spots.edge_rings.EdgeRings.put_edge.Goals as goal

pub put_edge-requires-clause-first : goal.put_edge-requires-clause-first
put_edge-requires-clause-first c = (sym (seen_known c.self.inside.labels.loops.items c.self.inside.rings (plus c.args.e)) ∙ (rw (← c.self.view_is) at c.requires.first).0, sym (seen_live c.self.inside.labels.loops.items c.self.inside.rings (plus c.args.e)) ∙ (rw (← c.self.view_is) at c.requires.first).1)

pub put_edge-requires-clause-second : goal.put_edge-requires-clause-second
put_edge-requires-clause-second c = (sym (seen_known c.self.inside.labels.loops.items c.self.inside.rings (minus c.args.e)) ∙ (rw (← c.self.view_is) at c.requires.second).0, sym (seen_live c.self.inside.labels.loops.items c.self.inside.rings (minus c.args.e)) ∙ (rw (← c.self.view_is) at c.requires.second).1)

pub invariant_of-self : goal.invariant_of-self
invariant_of-self c =
    let A = c.self.invariant.labelled in
    let plus_dead = sym (seen_live c.self.inside.labels.loops.items c.self.inside.rings (plus c.args.e)) ∙ (rw (← c.self.view_is) at c.requires.first).1 in
    let minus_dead = sym (seen_live c.self.inside.labels.loops.items c.self.inside.rings (minus c.args.e)) ∙ (rw (← c.self.view_is) at c.requires.second).1 in
    let plus_known = sym (seen_known c.self.inside.labels.loops.items c.self.inside.rings (plus c.args.e)) ∙ (rw (← c.self.view_is) at c.requires.first).0 in
    let minus_known = sym (seen_known c.self.inside.labels.loops.items c.self.inside.rings (minus c.args.e)) ∙ (rw (← c.self.view_is) at c.requires.second).0 in
    let spots = seen_as (λ (s : Spots). woken (woken s (plus c.args.e) c.args.start) (minus c.args.e) c.args.end) c.self.inside.labels.loops.items c.self.inside.labels.loops.items c.self.inside.rings c.put_edge.new.rings (loops-woken_both _ _ _ A c.args.e c.args.start c.args.end _ c.put_edge.ensures.spots) in
    record {
      labelled = labelled-woken _ _ _ A c.args.e c.args.start c.args.end c.requires.limit plus_dead minus_dead plus_known minus_known _ _ c.put_edge.ensures.spots c.put_edge.ensures.known;
      edges = edges_woken _ _ c.self.invariant.edges _ _ c.args.e c.args.start c.args.end c.requires.limit spots (known_as c.self.inside.labels.loops.items c.self.inside.labels.loops.items c.self.inside.rings c.put_edge.new.rings c.put_edge.ensures.known) c.put.ensures.uses c.put.ensures.len;
    }

pub returns-clause-spots : goal.returns-clause-spots
returns-clause-spots c = rw (← c.self.view_is) (seen_as (λ (s : Spots). woken (woken s (plus c.args.e) c.args.start) (minus c.args.e) c.args.end) c.self.inside.labels.loops.items c.self.inside.labels.loops.items c.self.inside.rings c.put_edge.new.rings (loops-woken_both _ _ _ c.self.invariant.labelled c.args.e c.args.start c.args.end _ c.put_edge.ensures.spots))

pub returns-clause-known : goal.returns-clause-known
returns-clause-known c = rw (← c.self.view_is) (known_as c.self.inside.labels.loops.items c.self.inside.labels.loops.items c.self.inside.rings c.put_edge.new.rings c.put_edge.ensures.known)
