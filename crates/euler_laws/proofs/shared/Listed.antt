-- The numbers of a table whose rows pass a test: which they are, and that they rise.
use Rattle.euler_laws.proofs.Prelude.{◌≡◌, ◌≢◌, ℕ, Bool, true, false, nat_eq, ◌<◌, ◌||◌, T, List, [], ◌∷◌, ◌++◌, Some, ne_eqb, refl, sym, ap, ◌∙◌, arith, true≢false, ◌⊎◌, nat_cmp, lt-ltb, find, is_sorted, below_all, nat_tests, eqb_tells, IsIn, Table, get, all_where, all_in, lists, strictly_rises, and_left, and_right, less_means, find_here, find_later, or_true}

-- the first of a list stands in it, and what stands in the rest does
pub first_listed : (n : ℕ) (ns : List ℕ) → lists (n ∷ ns) n ≡ true
first_listed n ns = let e : nat_eq n n ≡ true = grind (arith, nat_tests) in ap (λ b. b || lists ns n) e

pub rest_listed : (n q : ℕ) (ns : List ℕ) → lists ns q ≡ true → lists (n ∷ ns) q ≡ true
rest_listed n q ns l = ap (λ b. nat_eq n q || b) l ∙ or_true (nat_eq n q)

-- what stands in a list is its first or stands in the rest
pub listed_cases : (n q : ℕ) (ns : List ℕ) → lists (n ∷ ns) q ≡ true → (q ≡ n) ⊎ (lists ns q ≡ true)
listed_cases n q ns l = grind arith

-- to be listed is to stand in the list
pub IsIn-from_listed : (q : ℕ) (ns : List ℕ) → lists ns q ≡ true → IsIn q ns
IsIn-from_listed q [] l = absurd (true≢false (sym l))
IsIn-from_listed q (n ∷ ns) l = grind (arith, IsIn-from_listed q ns)

pub listed-from_in : (q : ℕ) (ns : List ℕ) → IsIn q ns → lists ns q ≡ true
listed-from_in q [] i = absurd (omega (arith, i))
listed-from_in q (n ∷ ns) i = grind (arith, listed-from_in q ns)

pub listed_front : (xs ys : List ℕ) (q : ℕ) → lists xs q ≡ true → lists (xs ++ ys) q ≡ true
listed_front [] ys q e = absurd (true≢false (sym e))
listed_front (x ∷ xs) ys q e = grind (arith, listed_front xs ys q)

pub other_last : (fs : List ℕ) (u f : ℕ) → f ≢ u → lists (fs ++ u ∷ []) f ≡ lists fs f
other_last [] u f ne = ap (λ b. b || false) (ne_eqb u f (λ e. ne (sym e)))
other_last (g ∷ gs) u f ne = ap (λ b. nat_eq g f || b) (other_last gs u f ne)

module _ {X : Type 0} where
  -- what is found past the numbers below k is greater
  pub found_past : (k q : ℕ) (es : List (ℕ × X)) (y : X) → T (below_all nat_cmp k es) → find nat_cmp q es ≡ Some y → k < q
  found_past k q [] y h is = cc
  found_past k q (e ∷ es) y h is = grind (arith, eqb_tells q e.0, less_means k e.0, and_left, found_past k q es y, and_right, find_later q e es, is)

  abbrev Found : (ℕ → X → Bool) → ℕ → List (ℕ × X) → Type 0
  Found p n es = (x : X) × (find nat_cmp n es ≡ Some x) × (p n x ≡ true)

  found_on : (p : ℕ → X → Bool) (n : ℕ) (e : ℕ × X) (es : List (ℕ × X)) → T (is_sorted nat_cmp (e ∷ es)) → Found p n es → Found p n (e ∷ es)
  found_on p n e es s f = grind (arith, find_later n e es, found_past e.0 n es f.0, and_left)

  listed_in : (p : ℕ → X → Bool) (n : ℕ) (es : List (ℕ × X)) → T (is_sorted nat_cmp es) → lists (all_in p es) n ≡ true → Found p n es
  listed_in p n [] s l = absurd (true≢false (sym l))
  listed_in p n (e ∷ es) s l =
      grind (arith, all_in p es, listed_cases e.0 n (all_in p es), find_here e es, found_on p n e es s, listed_in p n es, and_right)

  in_list : (p : ℕ → X → Bool) (n : ℕ) (x : X) (es : List (ℕ × X)) → find nat_cmp n es ≡ Some x → p n x ≡ true → lists (all_in p es) n ≡ true
  in_list p n x [] at passes = cc
  in_list p n x (e ∷ es) at passes = grind (arith, in_list p n x es)

  rises_past : (p : ℕ → X → Bool) (k : ℕ) (es : List (ℕ × X)) → T (below_all nat_cmp k es) → T (is_sorted nat_cmp es) → strictly_rises (k ∷ all_in p es) ≡ true
  rises_past p k [] h s = refl
  rises_past p k (e ∷ es) h s =
      grind (arith, all_in p es, lt-ltb k e.0, less_means k e.0, and_left, rises_past p e.0 es, and_right, rises_past p k es)

  rises_in : (p : ℕ → X → Bool) (es : List (ℕ × X)) → T (is_sorted nat_cmp es) → strictly_rises (all_in p es) ≡ true
  rises_in p [] s = refl
  rises_in p (e ∷ es) s = grind (arith, all_in p es, rises_past p e.0 es, and_left, and_right, rises_in p es)

-- what is listed has a row that passes
pub listed_passes : {X : Type 0} (p : ℕ → X → Bool) (t : Table X) (n : ℕ) → lists (all_where p t) n ≡ true → (x : X) × (get t n ≡ Some x) × (p n x ≡ true)
unfolding all_where get
listed_passes p t n l = listed_in p n t.rows t.rising l

-- what has a row that passes is listed
pub passes_listed : {X : Type 0} (p : ℕ → X → Bool) (t : Table X) (n : ℕ) (x : X) → get t n ≡ Some x → p n x ≡ true → lists (all_where p t) n ≡ true
unfolding all_where get
passes_listed p t n x at passes = in_list p n x t.rows at passes

-- a number with a row is listed where the row passes
pub listed_as : {X : Type 0} (p : ℕ → X → Bool) (t : Table X) (n : ℕ) (x : X) → get t n ≡ Some x → lists (all_where p t) n ≡ p n x
listed_as p t n x at = grind (arith, passes_listed, listed_passes)

pub all_where-rises : {X : Type 0} (p : ℕ → X → Bool) (t : Table X) → strictly_rises (all_where p t) ≡ true
unfolding all_where
all_where-rises p t = rises_in p t.rows t.rising

-- a rising list in which one number stands and no other
pub one_listed : (ns : List ℕ) (n : ℕ) → strictly_rises ns ≡ true → lists ns n ≡ true → ((q : ℕ) → lists ns q ≡ true → q ≡ n) → ns ≡ n ∷ []
one_listed [] n r l only = absurd (true≢false (sym l))
one_listed (m ∷ []) n r l only = ap (λ k. k ∷ []) (only m (first_listed m []))
one_listed (m ∷ k ∷ ns) n r l only = grind (arith, first_listed m (k ∷ ns), first_listed k ns)
