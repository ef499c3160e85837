use Rattle.gluing.proofs.Prelude.{◌≡◌, ℕ, ◌+◌, ap, sym, arith, greatest, Model, taken_in, fresh_edge, greatest_is}
use Rattle.gluing.proofs.joining.fresh_edge.Goals as goal

counted : (M : Model) (n : ℕ) → greatest M.edges ≡ n → n + 1 ≡ fresh_edge M
unfolding taken_in
counted M n e = ap (λ k. k + 1) (sym e)

pub overflow_add-result : goal.overflow_add-result
overflow_add-result c = omega (arith, c.requires, counted c.args.arena.now.model c.greatest.result (greatest_is c.args.arena.now.model.edges c.greatest.result c.greatest.ensures.used c.greatest.ensures.above))

pub returns : goal.returns
returns c = counted c.args.arena.now.model c.greatest.result (greatest_is c.args.arena.now.model.edges c.greatest.result c.greatest.ensures.used c.greatest.ensures.above)
