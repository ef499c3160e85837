-- What a list lists stands in it, and in a rising list once.
use Rattle.euler_laws.proofs.Prelude.{◌≡◌, ℕ, ◌≤◌, Bool, true, false, List, [], ◌∷◌, Some, refl, arith, true≢false, eqb_tells, count, IsIn, Table, get, all_where, lists, strictly_rises, tick_same, tick_other, IsIn_or_not, inl, inr}
use Rattle.euler_laws.proofs.shared.Listed.{first_listed, rest_listed, listed_passes, passes_listed, IsIn-from_listed, listed-from_in}
use Rattle.euler_laws.proofs.Sizes.{rises_on, rises_apart}

-- a number that isn't listed stands nowhere in the list
pub none_counted : (x : ℕ) (ns : List ℕ) → lists ns x ≡ false → count x ns ≡ 0
none_counted x [] e = refl
none_counted x (n ∷ ns) e = grind (arith, eqb_tells, true≢false, first_listed, tick_other, rest_listed, none_counted x ns)

-- nor does what can't stand there
pub none_in : (x : ℕ) (xs : List ℕ) → (IsIn x xs → ⊥) → count x xs ≡ 0
none_in x xs never = elim (IsIn_or_not x xs) [ inl i ↦ absurd (never i) | inr z ↦ z ]

pub counted_once : (x : ℕ) (ns : List ℕ) → strictly_rises ns ≡ true → count x ns ≤ 1
counted_once x [] r = omega arith
counted_once x (n ∷ ns) r =
    grind (arith, eqb_tells x n, tick_same x, none_counted x ns, tick_other x n, rises_on n ns r, rises_apart n x ns r, counted_once x ns)

-- the numbers of a table whose rows pass a test
pub all_where_has : {X : Type 0} (p : ℕ → X → Bool) (t : Table X) (n : ℕ) → IsIn n (all_where p t) → (x : X) × (get t n ≡ Some x) × (p n x ≡ true)
all_where_has p t n i = listed_passes p t n (listed-from_in n (all_where p t) i)

pub all_where_in : {X : Type 0} (p : ℕ → X → Bool) (t : Table X) (n : ℕ) (x : X) → get t n ≡ Some x → p n x ≡ true → IsIn n (all_where p t)
all_where_in p t n x at e = IsIn-from_listed n (all_where p t) (passes_listed p t n x at e)
