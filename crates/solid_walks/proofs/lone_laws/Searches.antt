-- The least number that passes a test.
use Rattle.solid_walks.proofs.Prelude.{◌≡◌, ℕ, ◌<◌, Bool, true, false, cond, ◌&&◌, ◌||◌, nat_eq, nat_le, List, [], ◌∷◌, Option, Some, None, refl, sym, ap, ◌∙◌, arith, true≢false, inl, inr, subst, fold, find, nat_tests, eqb_tells, or_left, or_right, Table, get, first_in, first_where, all_in, all_where, and_false, first_such, found, only, lesser, least_such}
use Rattle.solid_walks.proofs.face_walks_laws.Above.{member, AllAbove, Rising, not_member}
use Rattle.solid_walks.proofs.face_walks_laws.TableWalks.{passes, rising_passing, member_passing}

abbrev pub IsLeast : (ℕ → Bool) → Option ℕ → Type 0
IsLeast p None = (k : ℕ) → p k ≡ false
IsLeast p (Some n) = (p n ≡ true) × ((k : ℕ) → k < n → p k ≡ false)

-- there is but one
pub one_least : (p : ℕ → Bool) (m n : Option ℕ) → IsLeast p m → IsLeast p n → m ≡ n
one_least p None None a b = refl
one_least p None (Some n) a b = absurd (true≢false (sym b.0 ∙ a n))
one_least p (Some m) None a b = absurd (true≢false (sym a.0 ∙ b m))
one_least p (Some m) (Some n) a b = grind (arith, nat_tests, a.0, b.0, a.1 n, b.1 m)

-- it is the same for tests that agree
pub least_same : (p q : ℕ → Bool) → ((k : ℕ) → p k ≡ q k) → (n : Option ℕ) → IsLeast p n → IsLeast q n
least_same p q e None h = λ k. sym (e k) ∙ h k
least_same p q e (Some n) h = (sym (e n) ∙ h.0, λ k l. sym (e k) ∙ h.1 k l)

neither : (a b : Bool) → a ≡ false → b ≡ false → a || b ≡ false
neither a b e f = ap (λ c. c || b) e ∙ f

-- the least that passes one of two tests
pub least_either : (p q : ℕ → Bool) (m n : Option ℕ) → IsLeast p m → IsLeast q n → IsLeast (λ k. p k || q k) (lesser m n)
least_either p q None None a b = λ k. neither (p k) (q k) (a k) (b k)
least_either p q None (Some n) a b = (or_right (p n) (q n) b.0, λ k l. neither (p k) (q k) (a k) (b.1 k l))
least_either p q (Some m) None a b = (or_left (p m) (q m) a.0, λ k l. neither (p k) (q k) (a.1 k l) (b k))
least_either p q (Some m) (Some n) a b = elim (nat_le m n) as (λ c. nat_le m n ≡ c → IsLeast (λ k. p k || q k) (Some (cond c m n))) [
  | true ↦ λ t. (or_left (p m) (q m) a.0, λ k l. neither (p k) (q k) (a.1 k l) (b.1 k (grind (arith, nat_tests))))
  | false ↦ λ t. (or_right (p n) (q n) b.0, λ k l. neither (p k) (q k) (a.1 k (grind (arith, nat_tests))) (b.1 k l))
] refl

-- one number
only_least : (p : ℕ → Bool) (n : ℕ) → IsLeast (λ k. p k && nat_eq k n) (only (p n) n)
only_least p n = elim (p n) as (λ b. p n ≡ b → IsLeast (λ k. p k && nat_eq k n) (only b n)) [
  | true ↦ λ t. (same t, λ k l. other k (grind (arith, nat_tests)))
  | false ↦ λ t. λ k. elim (eqb_tells k n) [ inl e ↦ (λ i. p (e.1 i) && nat_eq k n) ∙ ap (λ b. b && nat_eq k n) t | inr e ↦ other k e.0 ]
] refl where
  same : p n ≡ true → p n && nat_eq n n ≡ true
  same t = let e : nat_eq n n ≡ true = grind (arith, nat_tests) in (λ i. t i && e i)

  other : (k : ℕ) → nat_eq k n ≡ false → p k && nat_eq k n ≡ false
  other k e = ap (λ b. p k && b) e ∙ and_false (p k)

pub and_or : (a b c : Bool) → (a && b) || (a && c) ≡ a && (b || c)
and_or true b c = refl
and_or false b c = refl

-- the least of a list
pub least_listed : (p : ℕ → Bool) (ks : List ℕ) → IsLeast (λ k. p k && member k ks) (least_such p ks)
least_listed p [] = λ k. and_false (p k)
least_listed p (n ∷ ns) = least_same (λ k. (p k && nat_eq k n) || (p k && member k ns)) (λ k. p k && member k (n ∷ ns)) (λ k. and_or (p k) (nat_eq k n) (member k ns)) (lesser (only (p n) n) (least_such p ns))
    (least_either (λ k. p k && nat_eq k n) (λ k. p k && member k ns) (only (p n) n) (least_such p ns) (only_least p n) (least_listed p ns))

found_some : (n : ℕ) → 0 < n → found n ≡ Some n
found_some n l = let e : nat_eq n 0 ≡ false = grind (arith, nat_tests) in ap (λ b. cond b None (Some n)) e

-- the first of a rising list is its least
pub least_rising : (p : ℕ → Bool) (ks : List ℕ) → Rising ks → IsLeast (λ k. p k && member k ks) (first_such p ks)
least_rising p [] rising = λ k. and_false (p k)
least_rising p (n ∷ ns) rising = elim (p n) as (λ b. p n ≡ b → IsLeast (λ k. p k && member k (n ∷ ns)) (cond b (Some n) (first_such p ns))) [
  | true ↦ λ t. (here t, below)
  | false ↦ λ t. least_same (λ k. p k && member k ns) (λ k. p k && member k (n ∷ ns)) (λ k. elim (eqb_tells k n) [
    | inl e ↦ (λ i. p (e.1 i) && member k ns) ∙ ap (λ b. b && member k ns) t ∙ sym (ap (λ b. b && member k (n ∷ ns)) t) ∙ (λ i. p (sym e.1 i) && member k (n ∷ ns))
    | inr e ↦ ap (λ b. p k && (b || member k ns)) (sym e.0)
  ]) (first_such p ns) (least_rising p ns rising.1)
] refl where
  below : (k : ℕ) → k < n → p k && member k (n ∷ ns) ≡ false
  below k l = grind (arith, nat_tests, and_false (p k), not_member n k ns (omega arith) rising.0)

  here : p n ≡ true → p n && member n (n ∷ ns) ≡ true
  here t = let e : nat_eq n n ≡ true = grind (arith, nat_tests) in (λ i. t i && (e i || member n ns))

-- the first row that passes is the first of all that pass
first_of_all : {X : Type 0} (p : ℕ → X → Bool) (t : Table X) → AllAbove 0 (all_where p t) → found (first_where p t) ≡ first_such (λ _. true) (all_where p t)
unfolding first_where all_where
first_of_all {X} p t some = first_of_rows t.rows some where
  first_of_rows : (es : List (ℕ × X)) → AllAbove 0 (all_in p es) → found (first_in p es) ≡ first_such (λ _. true) (all_in p es)
  first_of_rows [] some = refl
  first_of_rows (e ∷ es) some = elim (p e.0 e.1) as (λ b. AllAbove 0 (cond b (e.0 ∷ all_in p es) (all_in p es)) → found (cond b e.0 (first_in p es)) ≡ first_such (λ _. true) (cond b (e.0 ∷ all_in p es) (all_in p es))) [
    | true ↦ λ some. found_some e.0 some.0
    | false ↦ first_of_rows es
  ] some

-- the least row that passes
pub least_row : {X : Type 0} (p : ℕ → X → Bool) (t : Table X) → AllAbove 0 (all_where p t) → IsLeast (λ k. passes p k (get t k)) (found (first_where p t))
least_row {X} p t some = subst (IsLeast (λ k. passes p k (get t k))) (sym (first_of_all p t some))
    (least_same (λ k. true && member k (all_where p t)) (λ k. passes p k (get t k)) (member_passing p t) (first_such (λ _. true) (all_where p t)) (least_rising (λ _. true) (all_where p t) (rising_passing p t)))

-- three numbers, one after the other
pub lesser_of_three : (a b c : Option ℕ) → lesser (lesser a b) c ≡ lesser a (lesser b c)
lesser_of_three None b c = refl
lesser_of_three (Some a) None c = refl
lesser_of_three (Some a) (Some b) None = refl
lesser_of_three (Some a) (Some b) (Some c) = ap Some (grind (arith, nat_tests))

pub lesser_none : (a : Option ℕ) → lesser a None ≡ a
lesser_none None = refl
lesser_none (Some a) = refl

-- a walk that keeps the lesser of what it has and what it meets
pub fold_lesser : (g : ℕ → Option ℕ) (total : List ℕ → Option ℕ) → total [] ≡ None → ((n : ℕ) (ns : List ℕ) → total (n ∷ ns) ≡ lesser (g n) (total ns)) → (o : Option ℕ) (ns : List ℕ) → fold (λ o n. lesser o (g n)) o ns ≡ lesser o (total ns)
fold_lesser g total none more o [] = sym (lesser_none o) ∙ ap (lesser o) (sym none)
fold_lesser g total none more o (n ∷ ns) = fold_lesser g total none more (lesser o (g n)) ns ∙ lesser_of_three o (g n) (total ns) ∙ ap (lesser o) (sym (more n ns))

-- std's word for a search
pub first_is : (p : ℕ → Bool) (ns : List ℕ) → find p ns ≡ first_such p ns
first_is p [] = refl
first_is p (n ∷ ns) = ap (λ o. cond (p n) (Some n) o) (first_is p ns)
