-- Conditions in lists, conditions by search, and numbers that are left.
use Rattle.shapes.proofs.Prelude.{◌≡◌, ℕ, ◌≤◌, Bool, true, false, not, ◌&&◌, List, [], ◌∷◌, ◌++◌, Option, Some, None, is_some, refl, ap, arith, true≢false, eqb-true, le-leb, nat_tests, eqb_tells, IsIn, first_where, Model, is_number, Condition, AllHold, first_refusal, is_lone, lists, tick_other, all_hold, all_hold-front, none_refuses, least_lone, first_such, found, AreLeft, Needed, Taken, numbers_left}
use Rattle.euler_operators.specs.declared.Refusal.{Refusal}

-- the refusal of lists of conditions, one after the other
pub first_refusal-append : (cs ds : List Condition) → first_refusal cs ≡ None → first_refusal (cs ++ ds) ≡ first_refusal ds
first_refusal-append [] ds e = refl
first_refusal-append (c ∷ cs) ds e = grind (arith, first_refusal-append cs ds)

pub first_refusal-refused : (cs ds : List Condition) (r : Refusal) → first_refusal cs ≡ Some r → first_refusal (cs ++ ds) ≡ Some r
first_refusal-refused [] ds r e = cc
first_refusal-refused (c ∷ cs) ds r e = grind (arith, first_refusal-refused cs ds r)

-- where nothing refuses the whole list, nothing refuses its front
pub first_refusal-front : (cs ds : List Condition) → first_refusal (cs ++ ds) ≡ None → first_refusal cs ≡ None
first_refusal-front cs ds e = none_refuses cs (all_hold-front cs ds (all_hold (cs ++ ds) e))

-- where a search must find nothing, it finds nothing
pub none_found : (o : Option ℕ) → not (is_some o) ≡ true → o ≡ None
none_found None e = refl
none_found (Some n) e = absurd (true≢false (ap not e))

pub zero_found : (n : ℕ) → found n ≡ None → n ≡ 0
zero_found n e = grind (arith, eqb-true, true≢false)

pub none_is_lone : (M : Model) (fs : List ℕ) → least_lone M fs ≡ None → first_where (λ _ row. is_lone row.content && lists fs row.face) M.loops ≡ 0
none_is_lone M fs e = zero_found (first_where (λ _ row. is_lone row.content && lists fs row.face) M.loops) e

-- where a search finds nothing, the test is false of each number
pub none_such : (p : ℕ → Bool) (ns : List ℕ) → first_such p ns ≡ None → (x : ℕ) → IsIn x ns → p x ≡ false
none_such p [] e x i = absurd (omega arith)
none_such p (n ∷ ns) e x i = grind (arith, eqb_tells x n, tick_other x n, true≢false, none_such p ns)

-- numbers are left exactly where the conditions hold
pub numbers_are_left : (c : Taken) (n : Needed) → AllHold (numbers_left c n) → AreLeft c n
numbers_are_left c n h = grind (arith, c.face, n.faces, c.loop, n.loops, c.edge, n.edges, c.vertex, n.vertices)

pub left_numbers_hold : (c : Taken) (n : Needed) → AreLeft c n → AllHold (numbers_left c n)
left_numbers_hold c n h = (le-leb _ _ h.faces, (le-leb _ _ h.loops, (le-leb _ _ h.edges, (le-leb _ _ h.vertices, tt))))

-- a number above 0 and within the limit
pub number_fits : (n : ℕ) → 1 ≤ n → n ≤ 1000000 → is_number n ≡ true
number_fits n a b = grind (arith, nat_tests)
