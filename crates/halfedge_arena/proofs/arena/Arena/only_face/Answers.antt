use Rattle.halfedge_arena.proofs.Prelude.{sym, ◌∙◌, only_told, none_told}
use Rattle.halfedge_arena.proofs.arena.Arena.only_face.Goals as goal

pub returns-then-count-eq1 : goal.returns-then-count-eq1
returns-then-count-eq1 c = rw (← c.self.view_is) (only_told _ _ _ c.self.invariant c.args.s c.self.invariant.tied.faces_fit.no_zero (sym c.count.ensures ∙ c.if-count-eq1.true) c.after.result c.after.ensures)

pub returns-else-count-eq1 : goal.returns-else-count-eq1
returns-else-count-eq1 c = rw (← c.self.view_is) (none_told _ _ _ c.self.invariant c.args.s (λ e. c.if-count-eq1.false (c.count.ensures ∙ e)))
