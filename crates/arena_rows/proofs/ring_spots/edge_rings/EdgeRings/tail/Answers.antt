use Rattle.std.proofs.Common.{sym, ◌∙◌}
use Rattle.arena_rows.proofs.ring_spots_laws.RingViews.{seen_live, seen_tail}
use Rattle.arena_rows.proofs.ring_spots.edge_rings.EdgeRings.tail.Goals as goal

pub tail-requires : goal.tail-requires
tail-requires c = sym (seen_live c.self.inside.labels.loops.items c.self.inside.rings c.args.code) ∙ (rw (← c.self.view_is) at c.requires)

pub returns : goal.returns
returns c = rw (← c.self.view_is) (seen_tail c.self.inside.labels.loops.items c.self.inside.rings c.args.code ∙ c.tail.ensures)
