-- The facts that the conditions of an operator say, and conditions from facts.
use Rattle.euler_laws.proofs.Prelude.{◌≡◌, ℕ, Bool, true, false, cond, not, List, [], ◌∷◌, ◌++◌, Ok, Err, Option, Some, None, is_some, refl, sym, ap, ◌∙◌, true≢false, IsTrue, arith, Condition, AllHold, first_refusal, verdict, is_number, IsFirstFalse}
use Rattle.euler_operators.specs.declared.Refusal.{Refusal}

all_step : (c : Condition) (cs : List Condition) (b : Bool) → c.holds ≡ b → cond b (first_refusal cs) (Some c.refusal) ≡ None → (first_refusal cs ≡ None → AllHold cs) → AllHold (c ∷ cs)
all_step c cs true e is rest = (e, rest is)
all_step c cs false e is rest = absurd (true≢false (ap is_some is))

-- conditions that hold, one after the other: `first also second also tt`
infixr 4 ◌also◌
pub ◌also◌ : {A B : Type 0} → A → B → A × B
◌also◌ a b = (a, b)

-- where no condition refuses, each holds
pub all_hold : (cs : List Condition) → first_refusal cs ≡ None → AllHold cs
all_hold [] e = tt
all_hold (c ∷ cs) e = all_step c cs c.holds refl e (all_hold cs)

-- where each condition holds, none refuses
pub none_refuses : (cs : List Condition) → AllHold cs → first_refusal cs ≡ None
none_refuses [] h = refl
none_refuses (c ∷ cs) h = ap (λ b. cond b (first_refusal cs) (Some c.refusal)) h.0 ∙ none_refuses cs h.1

-- conditions that hold are passed over
passed_over : (cs ds : List Condition) → AllHold cs → first_refusal (cs ++ ds) ≡ first_refusal ds
passed_over [] ds h = refl
passed_over (c ∷ cs) ds h = ap (λ b. cond b (first_refusal (cs ++ ds)) (Some c.refusal)) h.0 ∙ passed_over cs ds h.1

first_step : (c : Condition) (cs : List Condition) (r : Refusal) (b : Bool) → c.holds ≡ b → cond b (first_refusal cs) (Some c.refusal) ≡ Some r → (first_refusal cs ≡ Some r → IsFirstFalse cs r) → IsFirstFalse (c ∷ cs) r
first_step c cs r true e is rest =
    let f = rest is in record {
      before = c ∷ f.before;
      condition = f.condition;
      after = f.after;
      order = ap (λ ds. c ∷ ds) f.order;
      hold = (e, f.hold);
      fails = f.fails;
      named = f.named;
    }
first_step c cs r false e is rest = record { before = []; condition = c; after = cs; order = refl; hold = tt; fails = e; named = cc }

-- what is named is the first condition that doesn't hold
pub first_is_named : (cs : List Condition) (r : Refusal) → first_refusal cs ≡ Some r → IsFirstFalse cs r
first_is_named [] r e = cc
first_is_named (c ∷ cs) r e = first_step c cs r c.holds refl e (first_is_named cs r)

pub named_is_first : (cs : List Condition) (r : Refusal) → IsFirstFalse cs r → first_refusal cs ≡ Some r
named_is_first cs r f = grind (arith, passed_over)

pub not_false : (b : Bool) → b ≡ false → not b ≡ true
not_false b e = ap not e

-- no number of a kind is 0
pub no_zero : (n : ℕ) → n ≡ 0 → IsTrue (is_number n) → ⊥
no_zero n z fits = true≢false (sym fits ∙ ap is_number z)

pub taken : {X : Type 0} (o : Option X) → o ≡ None → is_some o ≡ false
taken o e = ap is_some e

-- ---- conditions put after conditions

pub all_hold-append : (cs ds : List Condition) → AllHold cs → AllHold ds → AllHold (cs ++ ds)
all_hold-append [] ds h k = k
all_hold-append (c ∷ cs) ds h k = (h.0, all_hold-append cs ds h.1 k)

pub all_hold-front : (cs ds : List Condition) → AllHold (cs ++ ds) → AllHold cs
all_hold-front [] ds h = tt
all_hold-front (c ∷ cs) ds h = (h.0, all_hold-front cs ds h.1)

pub all_hold-back : (cs ds : List Condition) → AllHold (cs ++ ds) → AllHold ds
all_hold-back [] ds h = h
all_hold-back (c ∷ cs) ds h = all_hold-back cs ds h.1

-- ---- verdicts

pub verdict_passed : (o : Option Refusal) (u : Unit {0}) → Ok u ≡ verdict o → o ≡ None
verdict_passed None u e = refl
verdict_passed (Some r) u e = cc

pub verdict_failed : (o : Option Refusal) (r : Refusal) → Err r ≡ verdict o → o ≡ Some r
verdict_failed None r e = cc
verdict_failed (Some s) r e = cc
