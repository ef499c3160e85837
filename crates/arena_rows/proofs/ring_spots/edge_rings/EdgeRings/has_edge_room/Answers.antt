use Rattle.arena_rows.proofs.Prelude.{◌&&◌, nat_le, nat_lt, sym, ◌∙◌, plus, minus}
use Rattle.arena_rows.proofs.ring_spots_laws.RingViews.{seen_known}
use Rattle.arena_rows.proofs.ring_spots.edge_rings.EdgeRings.has_edge_room.Goals as goal

pub returns : goal.returns
returns c = rw (← c.self.view_is) (c.has_edge_room.ensures ∙ (λ i. nat_le c.args.e 1000000 && (nat_lt 0 c.args.e && (sym (seen_known c.self.inside.labels.loops.items c.self.inside.rings (plus c.args.e)) i && sym (seen_known c.self.inside.labels.loops.items c.self.inside.rings (minus c.args.e)) i))))
