use Rattle.halfedge_arena.proofs.Prelude.{ap, sym, ◌∙◌, or_zero, code, IsLive-next, edge_fits, half_there, tail_is, before_is, loose_before, code-half}
use Rattle.halfedge_arena.proofs.arena.Arena.tail_and_prev.Goals as goal

pub code-requires : goal.code-requires
code-requires c = edge_fits _ c.self.invariant.tied _ (rw (← c.self.view_is) at c.requires)

pub tail_and_prev-tail-requires : goal.tail_and_prev-tail-requires
tail_and_prev-tail-requires c = rw c.code.ensures (half_there _ c.self.invariant.tied _ (rw (← c.self.view_is) at c.requires))

pub returns-clause-tail : goal.returns-clause-tail
returns-clause-tail c =
    let there = half_there _ c.self.invariant.tied _ (rw (← c.self.view_is) at c.requires) in
    rw (← c.self.view_is) (sym (tail_is _ c.self.invariant.tied _ there ∙ ap or_zero (rw c.code.ensures at c.tail_and_prev-tail.ensures.tail)))

pub returns-clause-in_loop : goal.returns-clause-in_loop
returns-clause-in_loop c =
    let from = rw c.code.ensures at c.tail_and_prev-tail.ensures.prev in
    let told = before_is _ c.self.invariant.tied _ _ (rw (← c.self.view_is) at c.requires) (IsLive-next c.self.inside.rings _ _ from) (ap or_zero from) in
    rw (← c.self.view_is) (λ n. ap code c.of_code.ensures ∙ code-half _ ∙ told n)

pub returns-clause-loose : goal.returns-clause-loose
returns-clause-loose c =
    let from = rw c.code.ensures at c.tail_and_prev-tail.ensures.prev in
    let told = loose_before _ c.self.invariant.tied _ _ (rw (← c.self.view_is) at c.requires) (IsLive-next c.self.inside.rings _ _ from) (ap or_zero from) in
    rw (← c.self.view_is) (λ z. ap code c.of_code.ensures ∙ code-half _ ∙ told z)
