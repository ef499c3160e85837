-- The first refusal of conditions that are tested part by part.
use Rattle.euler_conditions.proofs.Prelude.{◌≡◌, Bool, true, false, cond, List, [], ◌∷◌, ◌++◌, Option, Some, None, Ok, Err, refl, ap, ◌∙◌, Refusal, Condition, first_refusal, verdict, answer}

-- a condition in front of others: a refusal, its own or one behind it, stays where more follows; where all hold, what follows is left
refused_before : (b : Bool) (r e : Refusal) (x y : Option Refusal) → (verdict x ≡ Err e → verdict y ≡ Err e) → verdict (cond b x (Some r)) ≡ Err e → verdict (cond b y (Some r)) ≡ Err e
refused_before true r e x y more is = more is
refused_before false r e x y more is = is

pub held_before : (b : Bool) (r : Refusal) (x y z : Option Refusal) → (verdict x ≡ Ok tt → verdict y ≡ verdict z) → verdict (cond b x (Some r)) ≡ Ok tt → verdict (cond b y (Some r)) ≡ verdict z
held_before true r x y z more is = more is
held_before false r x y z more is = cc

-- a part that is refused is refused whatever follows
pub part_refuses : (cs ds : List Condition) (e : Refusal) → verdict (first_refusal cs) ≡ Err e → verdict (first_refusal (cs ++ ds)) ≡ Err e
part_refuses [] ds e is = cc
part_refuses (c ∷ cs) ds e is = refused_before c.holds c.refusal e (first_refusal cs) (first_refusal (cs ++ ds)) (part_refuses cs ds e) is

-- a part that holds leaves what follows
pub part_holds : (cs ds : List Condition) → verdict (first_refusal cs) ≡ Ok tt → verdict (first_refusal (cs ++ ds)) ≡ verdict (first_refusal ds)
part_holds [] ds is = refl
part_holds (c ∷ cs) ds is = held_before c.holds c.refusal (first_refusal cs) (first_refusal (cs ++ ds)) (first_refusal ds) (part_holds cs ds) is

-- conditions in three parts, of which the first holds and the second is refused
pub middle_refuses : (all fronts bs cs : List Condition) (e : Refusal) → all ≡ fronts ++ (bs ++ cs) → verdict (first_refusal fronts) ≡ Ok tt → verdict (first_refusal bs) ≡ Err e → verdict (first_refusal all) ≡ Err e
middle_refuses all fronts bs cs e parts held refused = ap (λ xs. verdict (first_refusal xs)) parts ∙ part_holds fronts (bs ++ cs) held ∙ part_refuses bs cs e refused

-- where a value is asked for besides, the refusal is the same
pub answer_refuses : {A : Type 0} (o : Option Refusal) (x : A) (e : Refusal) → answer o x ≡ Err e → verdict o ≡ Err e
answer_refuses None x e is = cc
answer_refuses (Some r) x e is = cc
