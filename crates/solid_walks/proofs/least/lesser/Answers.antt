use Rattle.solid_walks.proofs.Prelude.{◌≡◌, ◌≤◌, ◌<◌, ℕ, Bool, true, false, cond, nat_le, Option, Some, sym, ap, ◌∙◌, arith, nat_tests, lesser}
use Rattle.solid_walks.proofs.least.lesser.Goals as goal

-- the lesser of two numbers that are there, by their order
of_two : (a b : Option ℕ) (m n : ℕ) (t : Bool) → a ≡ Some m → b ≡ Some n → nat_le m n ≡ t → Some (cond t m n) ≡ lesser a b
of_two a b m n t d e f = ap (λ t. Some (cond t m n)) (sym f) ∙ (λ i. lesser (sym d i) (sym e i))

at_most : (m n : ℕ) → m ≤ n → nat_le m n ≡ true
at_most m n l = grind (arith, nat_tests)

above : (m n : ℕ) → n < m → nat_le m n ≡ false
above m n l = grind (arith, nat_tests)

pub returns-then-m-n : goal.returns-then-m-n
returns-then-m-n c = let p = c.in-Some-Some in of_two _ _ p.m p.n true p.is-0 p.is-1 (at_most p.m p.n c.if-m-n.true)

pub returns-else-m-n : goal.returns-else-m-n
returns-else-m-n c = let p = c.in-Some-Some in of_two _ _ p.m p.n false p.is-0 p.is-1 (above p.m p.n c.if-m-n.false)
