use Rattle.std.proofs.Common.{sym, ◌∙◌}
use Rattle.arena_rows.proofs.ring_spots_laws.RingViews.{seen_live, seen_next, seen_tail, seen_permutation}
use Rattle.arena_rows.proofs.ring_spots.edge_rings.EdgeRings.tail_and_prev.Goals as goal

pub tail_and_prev-requires : goal.tail_and_prev-requires
tail_and_prev-requires c = sym (seen_live c.self.inside.labels.loops.items c.self.inside.rings c.args.code) ∙ (rw (← c.self.view_is) at c.requires)

pub returns : goal.returns
returns c = rw (← c.self.view_is) (record {
  tail = seen_tail c.self.inside.labels.loops.items c.self.inside.rings c.args.code ∙ c.tail_and_prev.ensures.tail;
  prev = seen_next c.self.inside.labels.loops.items c.self.inside.rings c.tail_and_prev.result.1 ∙ c.tail_and_prev.ensures.prev;
  permutation = seen_permutation c.self.inside.labels.loops.items c.self.inside.rings c.tail_and_prev.ensures.permutation;
})
