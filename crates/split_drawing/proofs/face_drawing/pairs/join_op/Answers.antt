use Rattle.std.proofs.Common.{◌∙◌, sym}
use Rattle.split_drawing.proofs.face_drawing_laws.PairOps.{back_op, on_op}
use Rattle.undo_journal.proofs.Corners.{same_mekr}
use Rattle.split_drawing.proofs.face_drawing.pairs.join_op.Goals as goal

pub returns-then-starts_in_ring : goal.returns-then-starts_in_ring
returns-then-starts_in_ring c = same_mekr _ c.corner.ensures c.corner-then-starts_in_ring.ensures ∙ back_op c.args.arena.now.model c.args.pair c.args.edge (sym c.starts_in_ring.ensures ∙ c.if-starts_in_ring.true)

pub returns-else-starts_in_ring : goal.returns-else-starts_in_ring
returns-else-starts_in_ring c = same_mekr _ c.corner-else-starts_in_ring.ensures c.corner-else-starts_in_ring-2.ensures ∙ on_op c.args.arena.now.model c.args.pair c.args.edge (sym c.starts_in_ring.ensures ∙ c.if-starts_in_ring.false)
