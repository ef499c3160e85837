-- What conditions that are tested one after another answer: a direct term for each goal of a check.
use Rattle.euler_conditions.proofs.Prelude.{◌≡◌, ◌≢◌, ℕ, Bool, true, false, cond, not, nat_eq, List, [], ◌∷◌, Option, Some, None, Result, Ok, Err, refl, ap, ne_eqb, eq-eqb, Refusal, Condition, first_refusal, verdict, answer}
use Rattle.euler_operators.specs.declared.Why.{Why}
use Rattle.euler_conditions.proofs.Orders.{held_before}

-- a refusal as a check answers it
abbrev pub refuses : Why → ℕ → Result (Unit {0}) Refusal
refuses why n = Err (record { why = why; number = n })

-- a condition that holds leaves those that follow, and one that doesn't is the refusal
pub passes : (b : Bool) (o : Option Refusal) (r : Refusal) → b ≡ true → verdict (cond b o (Some r)) ≡ verdict o
passes b o r e = ap (λ t. verdict (cond t o (Some r))) e

pub fails : (b : Bool) (o : Option Refusal) (r : Refusal) → b ≡ false → verdict (cond b o (Some r)) ≡ Err r
fails b o r e = ap (λ t. verdict (cond t o (Some r))) e

-- conditions before others
abbrev pub in_front : List Condition → Option Refusal → Option Refusal
in_front [] o = o
in_front (c ∷ cs) o = cond c.holds (in_front cs o) (Some c.refusal)

pub all_pass : (cs : List Condition) (o : Option Refusal) → verdict (first_refusal cs) ≡ Ok tt → verdict (in_front cs o) ≡ verdict o
all_pass [] o held = refl
all_pass (c ∷ cs) o held = held_before c.holds c.refusal (first_refusal cs) (in_front cs o) o (all_pass cs o) held

-- numbers that are the same, and numbers that aren't
pub same_numbers : (m n : ℕ) → m ≡ n → not (nat_eq m n) ≡ false
same_numbers m n e = ap not (eq-eqb m n e)

pub other_numbers : (m n : ℕ) → m ≢ n → not (nat_eq m n) ≡ true
other_numbers m n ne = ap not (ne_eqb m n ne)

-- where a value is asked for besides and answered, the conditions hold and it is that value
pub answer_holds : {A : Type 0} (o : Option Refusal) (x y : A) → answer o x ≡ Ok y → (verdict o ≡ Ok tt) × (x ≡ y)
answer_holds None x y is = (refl, cc)
answer_holds (Some r) x y is = (cc, cc)
