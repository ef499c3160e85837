use Rattle.halfedge_arena.proofs.Prelude.{ap, subst, sym, ◌∙◌, IsWhole, arena_of}
use Rattle.std.proofs.lemmas.Result.{IfOk-at_ok}
use Rattle.halfedge_arena.proofs.arena.Arena.copy.Goals as goal

-- each part of the copy is that of the arena, one after the other
pub invariant_of-result : goal.invariant_of-result
invariant_of-result c =
    let a = c.self.inside in
    let e = c.in_ok-edges-2 in
    let solids = IfOk-at_ok _ c.in_ok-edges.ensures.1 c.copy-2.ensures in
    let rows = ap (λ x. x.1) e.ensures.0 ∙ IfOk-at_ok _ c.in_ok-tables.ensures.1 c.copied_rows-rows.ensures in
    let chains = IfOk-at_ok _ e.ensures.1 c.copied_chains-chains.ensures in
    let edges = ap (λ x. x.0) e.ensures.0 ∙ c.in_ok-tables.ensures.0 ∙ ap (λ x. (x, c.in_ok-edges.edges.1)) (c.in_ok-edges.ensures.0 ∙ c.in_ok-rings.ensures) ∙ ap (λ x. (a.rings, x)) solids in
    subst (λ x. IsWhole (arena_of x.0 x.1 e.rows.0 e.rows.1 e.rows.2) e.chains.0 e.chains.1) (sym edges)
    (subst (λ x. IsWhole (arena_of a.rings a.solids x.0 x.1 x.2) e.chains.0 e.chains.1) (sym rows)
    (subst (λ x. IsWhole (arena_of a.rings a.solids a.faces a.loops a.vertices) x.0 x.1) (sym chains) c.self.invariant))
