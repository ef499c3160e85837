use Rattle.arena_rows.proofs.ring_spots_laws.RingViews.{seen-empty, no_edge_rings}
use Rattle.arena_rows.proofs.ring_spots.edge_rings.EdgeRings.new.Goals as goal

pub invariant_of-result : goal.invariant_of-result
invariant_of-result c = no_edge_rings _ _ _ c.new.ensures c.new-2.ensures.rows c.new-2.ensures.free c.new-2.ensures.room c.new-3.ensures

pub returns : goal.returns
returns c = seen-empty _ _ c.new.ensures
