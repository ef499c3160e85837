use Rattle.std.proofs.Common.{◌∙◌, sym}
use Rattle.session_slots.proofs.FaceRows.{face_none}
use Rattle.session_slots.proofs.cycles.half_edge_rows.Goals as goal

pub returns-then-not-has : goal.returns-then-not-has
returns-then-not-has c = face_none c.args.arena.now.model c.args.f c.args.rows.now (sym c.has.ensures.used ∙ c.if-not-has.true)
