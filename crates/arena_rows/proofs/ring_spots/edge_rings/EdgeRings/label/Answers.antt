use Rattle.std.proofs.Common.{sym, ◌∙◌}
use Rattle.arena_rows.proofs.ring_spots_laws.RingViews.{seen_live, seen_label_of}
use Rattle.arena_rows.proofs.ring_spots.edge_rings.EdgeRings.label.Goals as goal

pub loop_of-requires-clause-there : goal.loop_of-requires-clause-there
loop_of-requires-clause-there c = sym (seen_live c.self.inside.labels.loops.items c.self.inside.rings c.args.code) ∙ (rw (← c.self.view_is) at c.requires)

pub returns : goal.returns
returns c = rw (← c.self.view_is) (seen_label_of c.self.inside.labels.loops.items c.self.inside.rings c.args.code _ (sym (seen_live c.self.inside.labels.loops.items c.self.inside.rings c.args.code) ∙ (rw (← c.self.view_is) at c.requires))
    (c.loop_of.ensures))
