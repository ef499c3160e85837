use Rattle.std.proofs.Common.{◌∙◌}
use Rattle.arena_rows.proofs.ring_spots.edge_rings.EdgeRings.has_edge.Goals as goal

pub returns : goal.returns
returns c = rw (← c.self.view_is) (c.contains.ensures ∙ c.self.invariant.edges.live c.args.e)
