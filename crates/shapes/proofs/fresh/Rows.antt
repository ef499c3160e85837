-- Tables to which rows are added at fresh numbers: what a search lists, and the greatest number.
use Rattle.shapes.proofs.Prelude.{◌≡◌, ◌≢◌, ℕ, ◌≤◌, ◌<◌, Bool, true, false, cond, T, List, [], ◌∷◌, ◌++◌, Some, None, refl, sym, ap, ◌∙◌, arith, is_some, true≢false, ◌⊎◌, inl, inr, nat_eq, nat_cmp, is_lt, nat_tests, eqb_tells, unsigned_tied, and_left, and_right, nat_eq_itself, Table, all_in, greatest_in}
use Rattle.std.specs.FinMap.Entries as entries
use Rattle.std.specs.FinMap.Entries.{find, is_sorted, by_order}
use Rattle.std.specs.declared.cmp.Ordering.TheVariants.{Greater}
use Rattle.std.proofs.lemmas.Option.{same_Some}
use Rattle.euler_operators.specs.Table as table

-- every number of the rows is below n
abbrev pub AllBelow : {X : Type 0} → ℕ → List (ℕ × X) → Type 0
AllBelow n [] = Unit {0}
AllBelow n (e ∷ es) = (e.0 < n) × AllBelow n es

pub all_in-append : {X : Type 0} (p : ℕ → X → Bool) (es fs : List (ℕ × X)) → all_in p (es ++ fs) ≡ all_in p es ++ all_in p fs
all_in-append p [] fs = refl
all_in-append p (e ∷ es) fs = grind (arith, all_in-append p es fs)

greater_is : (k n : ℕ) → n < k → nat_cmp k n ≡ Greater
greater_is k n h = grind (arith, nat_tests)

-- a row that is put at a number above all others comes last
pub put_last : {X : Type 0} (k : ℕ) (v : X) (es : List (ℕ × X)) → AllBelow k es → entries.put nat_cmp k v es ≡ es ++ (k, v) ∷ []
put_last k v [] b = refl
put_last k v (e ∷ es) b = ap (λ o. by_order o ((k, v) ∷ e ∷ es) ((e.0, v) ∷ es) (e ∷ entries.put nat_cmp k v es)) (greater_is k e.0 b.0) ∙ ap (λ t. e ∷ t) (put_last k v es b.1)

head_below : {X : Type 0} (k n : ℕ) (es : List (ℕ × X)) → T (is_lt (nat_cmp n k)) → n < k
head_below k n es h = grind (arith, nat_tests)

-- in a rising table every number is below one that is above the greatest
pub all_below : {X : Type 0} (k : ℕ) (es : List (ℕ × X)) → T (is_sorted nat_cmp es) → greatest_in es < k → AllBelow k es
all_below k [] s g = tt
all_below k (e ∷ []) s g = (g, tt)
all_below k (e ∷ f ∷ es) s g =
    let rest : AllBelow k (f ∷ es) = all_below k (f ∷ es) (and_right _ _ s) g in
    let less : e.0 < f.0 = head_below f.0 e.0 es (and_left _ _ (and_left _ _ s)) in
    (less_still e.0 f.0 k less rest.0, rest) where
      less_still : (a b c : ℕ) → a < b → b < c → a < c
      less_still a b c l m = omega arith

module _ {X : Type 0} (t : Table X) (k : ℕ) (v : X) (above : table.greatest t < k) where
  pub rows-put_last : (table.put t k v).rows ≡ t.rows ++ (k, v) ∷ []
  unfolding table.put table.greatest
  rows-put_last = put_last k v t.rows (all_below k t.rows t.rising above)

  -- a search lists it last, where it passes
  pub all_where-put_last : (p : ℕ → X → Bool) → table.all_where p (table.put t k v) ≡ table.all_where p t ++ cond (p k v) (k ∷ []) []
  unfolding table.all_where
  all_where-put_last p = ap (all_in p) rows-put_last ∙ all_in-append p t.rows ((k, v) ∷ [])

  greatest_last : (es : List (ℕ × X)) → greatest_in (es ++ (k, v) ∷ []) ≡ k
  greatest_last [] = refl
  greatest_last (e ∷ []) = refl
  greatest_last (e ∷ f ∷ es) = greatest_last (f ∷ es)

  -- and it is the greatest
  pub greatest-put_last : table.greatest (table.put t k v) ≡ k
  unfolding table.greatest
  greatest-put_last = ap greatest_in rows-put_last ∙ greatest_last t.rows

find_above : {X : Type 0} (k : ℕ) (es : List (ℕ × X)) → AllBelow k es → find nat_cmp k es ≡ None
find_above k [] b = refl
find_above k (e ∷ es) b = ap (λ c. cond c (Some e.1) (find nat_cmp k es)) (unsigned_tied k e.0 ∙ other k e.0 b.0) ∙ find_above k es b.1 where
  other : (k n : ℕ) → n < k → nat_eq k n ≡ false
  other k n l = grind (arith, nat_tests)

-- a number above the greatest is free
pub none_above : {X : Type 0} (t : Table X) (k : ℕ) → table.greatest t < k → table.get t k ≡ None
unfolding table.get table.greatest
none_above t k above = find_above k t.rows (all_below k t.rows t.rising above)

pub free_above : {X : Type 0} (t : Table X) (k : ℕ) → table.greatest t < k → table.has t k ≡ false
free_above t k above = ap is_some (none_above t k above)

-- no number in use is above the greatest
pub at_most_greatest : {X : Type 0} (t : Table X) (k : ℕ) → table.has t k ≡ true → k ≤ table.greatest t
at_most_greatest t k there = grind (arith, true≢false, free_above)

-- a row that is found was put or was there
pub get-put_cases : {X : Type 0} (t : Table X) (k : ℕ) (v : X) (q : ℕ) (x : X) → table.get (table.put t k v) q ≡ Some x → ((q ≡ k) × (x ≡ v)) ⊎ ((q ≢ k) × (table.get t q ≡ Some x))
get-put_cases t k v q x at = elim (eqb_tells q k) [
  | inl e ↦ inl (e.1, same_Some _ _ (sym at ∙ table.get-put t k v q ∙ ap (λ b. cond b (Some v) (table.get t q)) e.0))
  | inr e ↦ inr (e.1, sym (table.get-put t k v q ∙ ap (λ b. cond b (Some v) (table.get t q)) e.0) ∙ at)
]

found_greatest : {X : Type 0} (e : ℕ × X) (es : List (ℕ × X)) → is_some (find nat_cmp (greatest_in (e ∷ es)) (e ∷ es)) ≡ true
found_greatest e [] = ap (λ c. is_some (cond c (Some e.1) None)) (unsigned_tied e.0 e.0 ∙ nat_eq_itself e.0)
found_greatest e (f ∷ es) = grind (arith, found_greatest f es)

-- the greatest number is in use, where it isn't 0
pub greatest_used : {X : Type 0} (t : Table X) → table.greatest t ≢ 0 → table.has t (table.greatest t) ≡ true
unfolding table.get table.greatest
greatest_used {X = X} t some = greatest_found t.rows some where
  greatest_found : (es : List (ℕ × X)) → greatest_in es ≢ 0 → is_some (find nat_cmp (greatest_in es) es) ≡ true
  greatest_found [] some = absurd (some refl)
  greatest_found (e ∷ es) some = found_greatest e es

-- a number in use, or 0, that no number in use passes is the greatest
pub greatest_is : {X : Type 0} (t : Table X) (n : ℕ) → (n ≢ 0 → table.has t n ≡ true) → ((k : ℕ) → n < k → table.has t k ≡ false) → table.greatest t ≡ n
greatest_is t n used above = grind (arith, true≢false, greatest_used t, free_above t n, eqb_tells, nat_tests)
