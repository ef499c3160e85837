use Rattle.halfedge_arena.proofs.Prelude.{sym, ◌∙◌, next_ring_told, ring_past_told}
use Rattle.halfedge_arena.proofs.arena.Arena.next_ring.Goals as goal

pub returns-then-eq : goal.returns-then-eq
returns-then-eq c = rw (← c.self.view_is) (ring_past_told _ _ _ c.self.invariant c.args.f c.args.number c.outer-outer.result
    (rw (← c.self.view_is) at c.outer-outer.ensures) c.after-next.result (sym c.eq.ensures ∙ c.if-eq.true) c.after-next.ensures c.after.result c.after.ensures)

pub returns-else-eq : goal.returns-else-eq
returns-else-eq c = rw (← c.self.view_is) (next_ring_told _ _ _ c.self.invariant c.args.f c.args.number c.outer-outer.result
    (rw (← c.self.view_is) at c.outer-outer.ensures) c.after-next.result (sym c.eq.ensures ∙ c.if-eq.false) c.after-next.ensures)
