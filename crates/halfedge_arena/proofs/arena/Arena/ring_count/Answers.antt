use Rattle.halfedge_arena.proofs.Prelude.{sym, ◌∙◌, arith, true, false, has-row, rings_counted}
use Rattle.halfedge_arena.proofs.arena.Arena.ring_count.Goals as goal

pub known-outer-requires : goal.known-outer-requires
known-outer-requires c = (has-row _ _ _ (rw (← c.self.view_is) at c.requires))

pub overflow_sub-result : goal.overflow_sub-result
overflow_sub-result c =
    let counted = rings_counted _ _ _ c.self.invariant c.args.f _ c.known-outer.ensures true (sym c.names.ensures ∙ c.if-names.true) in
    omega (arith, c.count-named.ensures, counted)

pub returns-then-names : goal.returns-then-names
returns-then-names c =
    let counted = rings_counted _ _ _ c.self.invariant c.args.f _ c.known-outer.ensures true (sym c.names.ensures ∙ c.if-names.true) in
    rw (← c.self.view_is) (omega (arith, c.count-named.ensures, counted))

pub returns-else-names : goal.returns-else-names
returns-else-names c =
    let counted = rings_counted _ _ _ c.self.invariant c.args.f _ c.known-outer.ensures false (sym c.names.ensures ∙ c.if-names.false) in
    rw (← c.self.view_is) (omega (arith, c.count-named.ensures, counted))
