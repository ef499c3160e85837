use Rattle.undo_journal.proofs.Prelude.{◌≡◌, ℕ, ◌+◌, ◌-◌, List, take, ap, ◌∙◌, arith, take-take}
use Rattle.undo_journal.proofs.session.reuse_ahead.Goals as goal

-- what is left of a list once the last of its first n + 1 is taken off
popped : {X : Type 0} (n k : ℕ) (xs ys zs : List X) → ys ≡ take (n + 1) xs → zs ≡ take (k - 1) ys → k ≡ n + 1 → zs ≡ take n xs
popped n k xs ys zs a b e = b ∙ ap (λ m. take m ys) (omega (arith, e)) ∙ ap (take n) a ∙ take-take n (n + 1) xs (omega arith)

pub returns-in-Some-clause-items : goal.returns-in-Some-clause-items
returns-in-Some-clause-items c = popped _ _ _ _ _ c.truncate.ensures.items c.pop.ensures.rest (omega (arith, c.truncate.ensures.len, c.len.ensures, c.if-len-place.false))

pub returns-in_default-clause-items : goal.returns-in_default-clause-items
returns-in_default-clause-items c = popped _ _ _ _ _ c.truncate.ensures.items c.pop.ensures.rest (omega (arith, c.truncate.ensures.len, c.len.ensures, c.if-len-place.false))
