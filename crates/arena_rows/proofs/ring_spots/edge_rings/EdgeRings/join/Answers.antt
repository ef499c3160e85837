use Rattle.arena_rows.proofs.Prelude.{◌≡◌, ◌≢◌, sym, ◌∙◌, spot, label, map_in_loops}
use Rattle.arena_rows.proofs.ring_spots_laws.RingViews.{seen_live, seen_label, seen-joined, known_as}
use Rattle.arena_rows.proofs.ring_spots_laws.LiveEdges.{edges_joined}
use Rattle.arena_rows.proofs.ring_spots.edge_rings.EdgeRings.join.Goals as goal

pub join-requires : goal.join-requires
join-requires c =
    let a = sym (seen_live c.self.inside.labels.loops.items c.self.inside.rings c.args.a) ∙ (rw (← c.self.view_is) at c.requires.a) in
    let b = sym (seen_live c.self.inside.labels.loops.items c.self.inside.rings c.args.b) ∙ (rw (← c.self.view_is) at c.requires.b) in
    let other : label (spot (map_in_loops c.self.inside.labels.loops.items c.self.inside.rings)) c.args.b ≢ label (spot (map_in_loops c.self.inside.labels.loops.items c.self.inside.rings)) c.args.a = rw (← c.self.view_is) at c.requires.apart in
    let kept : label (spot (map_in_loops c.self.inside.labels.loops.items c.self.inside.rings)) c.args.a ≡ c.args.kept = rw (← c.self.view_is) at c.requires.kept in
    let label_a = seen_label c.self.inside.labels.loops.items c.self.inside.rings c.args.a a in
    record {
      whole = c.self.invariant.labelled;
      a = a;
      b = b;
      apart = λ e. other (seen_label c.self.inside.labels.loops.items c.self.inside.rings c.args.b b ∙ e ∙ sym label_a);
      kept = sym kept ∙ label_a;
    }

pub invariant_of-self : goal.invariant_of-self
invariant_of-self c =
    let a = sym (seen_live c.self.inside.labels.loops.items c.self.inside.rings c.args.a) ∙ (rw (← c.self.view_is) at c.requires.a) in
    let spots = seen-joined c.self.inside.labels.loops.items c.self.inside.rings c.join.new.labels.loops.items c.join.new.rings c.args.a c.args.b a c.join.ensures.spots in
    record { labelled = c.join.ensures.whole; edges = edges_joined _ _ c.self.invariant.edges _ c.args.a c.args.b _ _ spots (known_as c.self.inside.labels.loops.items c.join.new.labels.loops.items c.self.inside.rings c.join.new.rings c.join.ensures.known) }

pub returns-clause-spots : goal.returns-clause-spots
returns-clause-spots c = rw (← c.self.view_is) (seen-joined c.self.inside.labels.loops.items c.self.inside.rings c.join.new.labels.loops.items c.join.new.rings c.args.a c.args.b (sym (seen_live c.self.inside.labels.loops.items c.self.inside.rings c.args.a) ∙ (rw (← c.self.view_is) at c.requires.a)) c.join.ensures.spots)

pub returns-clause-known : goal.returns-clause-known
returns-clause-known c = rw (← c.self.view_is) (known_as c.self.inside.labels.loops.items c.join.new.labels.loops.items c.self.inside.rings c.join.new.rings c.join.ensures.known)
