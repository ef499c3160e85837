-- What tests of numbers and sums of tests tell.
use Rattle.cyclic_list.proofs.Prelude.{◌≡◌, ◌≢◌, ℕ, suc, ◌<◌, ◌≤◌, ◌||◌, ◌&&◌, Bool, true, false, not, nat_eq, refl, sym, ◌∙◌, arith, ◌⊎◌, true≢false, nat_cmp, is_eq, nat_tests}
use mathlib.Core.Bool.{beq}

-- ---- two tests

pub and_first : (a b : Bool) → (a && b) ≡ true → a ≡ true
and_first true b e = refl
and_first false b e = e

pub and_second : (a b : Bool) → (a && b) ≡ true → b ≡ true
and_second true b e = e
and_second false b e = absurd (true≢false (sym e))

-- where both don't hold and the second does, the first doesn't
pub first_fails : (a b : Bool) → (a && b) ≡ false → b ≡ true → a ≡ false
first_fails true b e t = absurd (true≢false (sym t ∙ e))
first_fails false b e t = refl

pub and_false : (a : Bool) → (a && false) ≡ false
and_false true = refl
and_false false = refl

pub or_false : (a : Bool) → (a || false) ≡ a
or_false true = refl
or_false false = refl

pub or_true : (a : Bool) → (a || true) ≡ true
or_true true = refl
or_true false = refl

pub not_or_fails : (a b : Bool) → (not a || b) ≡ false → a ≡ true
not_or_fails true b e = refl
not_or_fails false b e = absurd (true≢false e)

pub beq_itself : (a : Bool) → beq a a ≡ true
beq_itself true = refl
beq_itself false = refl

pub beq_true : (a b : Bool) → beq a b ≡ true → a ≡ b
beq_true true true e = refl
beq_true true false e = absurd (true≢false (sym e))
beq_true false true e = absurd (true≢false (sym e))
beq_true false false e = refl

-- two tests that tell the same
pub same_truth : (a b : Bool) → (a ≡ true → b ≡ true) → (b ≡ true → a ≡ true) → a ≡ b
same_truth true true f g = refl
same_truth true false f g = sym (f refl)
same_truth false true f g = g refl
same_truth false false f g = refl

-- ---- numbers

pub nat_eq_itself : (n : ℕ) → nat_eq n n ≡ true
nat_eq_itself n = grind (arith, nat_tests)

pub nat_eq_turned : (a b : ℕ) → nat_eq a b ≡ nat_eq b a
nat_eq_turned a b = grind (arith, nat_tests)

-- a number that is f is o no more than l
pub none_but : (a f o l : ℕ) → (a ≡ f → o ≡ l) → (nat_eq a f && not (nat_eq o l)) ≡ false
none_but a f o l p = grind (arith, nat_tests)

pub less_still : (i n : ℕ) → i < suc n → i ≢ n → i < n
less_still i n l ne = grind arith

pub less_or_same : (a b : ℕ) → a ≤ b → (a < b) ⊎ (a ≡ b)
less_or_same a b l = grind arith

pub number_tied : (m n : ℕ) → is_eq (nat_cmp m n) ≡ nat_eq m n
number_tied m n = grind arith

pub at_most_or_above : (a b : ℕ) → (a ≤ b) ⊎ (b < a)
at_most_or_above a b = grind arith
