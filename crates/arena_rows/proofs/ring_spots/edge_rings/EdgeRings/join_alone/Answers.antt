use Rattle.arena_rows.proofs.Prelude.{◌≢◌, sym, ap, ◌∙◌, or_zero, spot, IsLive-next, label, map_in_loops}
use Rattle.arena_rows.proofs.ring_spots_laws.RingViews.{seen_live, seen_next, seen_label, seen-joined, known_as}
use Rattle.arena_rows.proofs.ring_spots_laws.LiveEdges.{edges_joined}
use Rattle.arena_rows.proofs.ring_spots_laws.Alone.{ring_alone}
use Rattle.arena_rows.proofs.ring_spots.edge_rings.EdgeRings.join_alone.Goals as goal

pub join_alone-requires : goal.join_alone-requires
join_alone-requires c =
    let a = sym (seen_live c.self.inside.labels.loops.items c.self.inside.rings c.args.a) ∙ (rw (← c.self.view_is) at c.requires.a) in
    let n = sym (seen_next c.self.inside.labels.loops.items c.self.inside.rings c.args.b) ∙ (rw (← c.self.view_is) at c.requires.alone) in
    let b = IsLive-next _ _ _ n in
    let other : label (spot (map_in_loops c.self.inside.labels.loops.items c.self.inside.rings)) c.args.b ≢ label (spot (map_in_loops c.self.inside.labels.loops.items c.self.inside.rings)) c.args.a = rw (← c.self.view_is) at c.requires.apart in
    record {
      whole = c.self.invariant.labelled;
      a = a;
      b = b;
      alone = ring_alone _ c.self.invariant.labelled.rings c.args.b b (ap or_zero n);
      apart = λ e. other (seen_label c.self.inside.labels.loops.items c.self.inside.rings c.args.b b ∙ e ∙ sym (seen_label c.self.inside.labels.loops.items c.self.inside.rings c.args.a a));
    }

pub invariant_of-self : goal.invariant_of-self
invariant_of-self c =
    let a = sym (seen_live c.self.inside.labels.loops.items c.self.inside.rings c.args.a) ∙ (rw (← c.self.view_is) at c.requires.a) in
    let spots = seen-joined c.self.inside.labels.loops.items c.self.inside.rings c.join_alone.new.labels.loops.items c.join_alone.new.rings c.args.a c.args.b a c.join_alone.ensures.spots in
    record { labelled = c.join_alone.ensures.whole; edges = edges_joined _ _ c.self.invariant.edges _ c.args.a c.args.b _ _ spots (known_as c.self.inside.labels.loops.items c.join_alone.new.labels.loops.items c.self.inside.rings c.join_alone.new.rings c.join_alone.ensures.known) }

pub returns-clause-spots : goal.returns-clause-spots
returns-clause-spots c = rw (← c.self.view_is) (seen-joined c.self.inside.labels.loops.items c.self.inside.rings c.join_alone.new.labels.loops.items c.join_alone.new.rings c.args.a c.args.b (sym (seen_live c.self.inside.labels.loops.items c.self.inside.rings c.args.a) ∙ (rw (← c.self.view_is) at c.requires.a)) c.join_alone.ensures.spots)

pub returns-clause-known : goal.returns-clause-known
returns-clause-known c = rw (← c.self.view_is) (known_as c.self.inside.labels.loops.items c.join_alone.new.labels.loops.items c.self.inside.rings c.join_alone.new.rings c.join_alone.ensures.known)
