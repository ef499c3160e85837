use Rattle.halfedge_arena.proofs.Prelude.{ap, ◌∙◌, length, owned, face_count_is}
use Rattle.halfedge_arena.proofs.arena.Arena.face_count.Goals as goal

pub returns : goal.returns
returns c = rw (← c.self.view_is) (c.count.ensures ∙ ap (λ t. length (owned c.args.s t)) c.self.invariant.indexed.of_solids ∙ face_count_is _ c.args.s)
