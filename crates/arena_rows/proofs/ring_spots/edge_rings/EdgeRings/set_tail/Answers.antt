use Rattle.arena_rows.proofs.Prelude.{ap, sym, ◌∙◌, spot, Spots, in_loops, set_tail}
use Rattle.arena_rows.proofs.ring_spots_laws.LoopSpots.{loops-set_tail}
use Rattle.arena_rows.proofs.ring_spots_laws.LabelEdges.{labelled-set_tail}
use Rattle.arena_rows.proofs.ring_spots_laws.LiveEdges.{edges_set_tail}
use Rattle.arena_rows.proofs.ring_spots_laws.RingViews.{seen_as, known_as, seen_live}
use Rattle.arena_rows.proofs.ring_spots.edge_rings.EdgeRings.set_tail.Goals as goal

pub set_tail-requires : goal.set_tail-requires
set_tail-requires c = sym (seen_live c.self.inside.labels.loops.items c.self.inside.rings c.args.h) ∙ (rw (← c.self.view_is) at c.requires)

pub invariant_of-self : goal.invariant_of-self
invariant_of-self c = record {
  labelled = labelled-set_tail _ _ _ c.self.invariant.labelled c.args.h c.args.v _ _ c.set_tail.ensures.spots c.set_tail.ensures.known;
  edges = edges_set_tail _ _ c.self.invariant.edges _ c.args.h c.args.v (seen_as (λ (s : Spots). set_tail s c.args.h c.args.v) c.self.inside.labels.loops.items c.self.inside.labels.loops.items c.self.inside.rings c.set_tail.new.rings (ap (in_loops c.self.inside.labels.loops.items) c.set_tail.ensures.spots ∙ loops-set_tail c.self.inside.labels.loops.items (spot c.self.inside.rings) c.args.h c.args.v)) (known_as c.self.inside.labels.loops.items c.self.inside.labels.loops.items c.self.inside.rings c.set_tail.new.rings c.set_tail.ensures.known);
}

pub returns-clause-spots : goal.returns-clause-spots
returns-clause-spots c = rw (← c.self.view_is) (seen_as (λ (s : Spots). set_tail s c.args.h c.args.v) c.self.inside.labels.loops.items c.self.inside.labels.loops.items c.self.inside.rings c.set_tail.new.rings (ap (in_loops c.self.inside.labels.loops.items) c.set_tail.ensures.spots ∙ loops-set_tail c.self.inside.labels.loops.items (spot c.self.inside.rings) c.args.h c.args.v))

pub returns-clause-known : goal.returns-clause-known
returns-clause-known c = rw (← c.self.view_is) (known_as c.self.inside.labels.loops.items c.self.inside.labels.loops.items c.self.inside.rings c.set_tail.new.rings c.set_tail.ensures.known)
