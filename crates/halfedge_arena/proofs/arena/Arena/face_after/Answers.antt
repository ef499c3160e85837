use Rattle.arena_rows.proofs.Common.{next_face}
use Rattle.halfedge_arena.proofs.arena.Arena.face_after.Goals as goal

pub returns : goal.returns
returns c = rw (← c.self.view_is) (next_face _ _ _ c.self.invariant c.args.s c.args.number c.after.result c.after.ensures)
