-- Laws of tables under several changes.
use Rattle.std.proofs.Common.{◌≡◌, ◌≢◌, ℕ, Bool, true, false, cond, ◌<◌, ◌≤◌, T, List, [], ◌∷◌, Option, Some, None, is_some, refl, sym, ap, ◌∙◌, arith, ◌&&◌, eq-eqb, ne_eqb, true≢false, inl, inr, option_map, nat_cmp, is_lt}
use Rattle.std.specs.FinMap.Entries.{find, is_sorted, below_all}
use Rattle.std.specs.Cmp.{unsigned_tied}
use Rattle.std.proofs.lemmas.Bool.Decides.{nat_tests, eqb_tells}
use Rattle.std.proofs.lemmas.Option.{same_Some}
use Rattle.cyclic_list.specs.Items.{count, tick}
use Rattle.cyclic_list.proofs.Lists.{tick_same, tick_other}
use Rattle.cyclic_list.proofs.Members.{no_cons}
use Rattle.cyclic_list.proofs.Tests.{at_most_or_above}
use Rattle.boundary_model.specs.Sound.{Has}
use Rattle.boundary_model.specs.Table.{Table, get, put, remove, map_rows, map_entries, greatest, greatest_in, first_where, first_in, all_where, all_in, tables, same_table, get-map_rows, get-put, get-remove}

-- a row that is put at a free number and taken away again
pub remove-put : {X : Type 0} (t : Table X) (n : ℕ) (x : X) → get t n ≡ None → remove (put t n x) n ≡ t
remove-put t n x free = same_table _ _ (λ q. grind (arith, nat_tests, tables))

-- a row that is taken away and put again
pub put-remove : {X : Type 0} (t : Table X) (n : ℕ) (x : X) → get t n ≡ Some x → put (remove t n) n x ≡ t
put-remove t n x there = same_table _ _ (λ q. grind (arith, nat_tests, tables))

-- a row that is put in its place again
pub put_same : {X : Type 0} (t : Table X) (n : ℕ) (x : X) → get t n ≡ Some x → put t n x ≡ t
put_same t n x there = same_table _ _ (λ q. grind (arith, nat_tests, tables))

-- a rewriting after a row is put
pub map-put : {X : Type 0} (f : ℕ → X → X) (t : Table X) (n : ℕ) (x : X) → map_rows f (put t n x) ≡ put (map_rows f t) n (f n x)
map-put f t n x = same_table _ _ (λ q. grind (arith, nat_tests, tables))

on_row : {X : Type 0} (f : X → X) (o : Option X) → ((x : X) → o ≡ Some x → f x ≡ x) → option_map f o ≡ o
on_row f None alone = refl
on_row f (Some x) alone = ap Some (alone x refl)

-- a rewriting that leaves each row alone
pub map_same : {X : Type 0} (f : ℕ → X → X) (t : Table X) → ((q : ℕ) (x : X) → get t q ≡ Some x → f q x ≡ x) → map_rows f t ≡ t
map_same f t alone = same_table _ _ (λ q. get-map_rows f t q ∙ on_row (f q) (get t q) (alone q))

-- a rewriting that leaves each row but one alone
pub map_one : {X : Type 0} (f : ℕ → X → X) (t : Table X) (n : ℕ) (x : X) → get t n ≡ Some x → ((q : ℕ) (y : X) → q ≢ n → get t q ≡ Some y → f q y ≡ y) → map_rows f t ≡ put t n (f n x)
map_one f t n x there alone = same_table _ _ (λ q. get-map_rows f t q ∙ elim (eqb_tells q n) [
  | inl p ↦ ap (λ k. option_map (f k) (get t k)) p.1 ∙ ap (option_map (f n)) there ∙ sym (get-put t n (f n x) q ∙ ap (λ b. cond b (Some (f n x)) (get t q)) p.0)
  | inr p ↦ on_row (f q) (get t q) (λ y at. alone q y p.1 at) ∙ sym (get-put t n (f n x) q ∙ ap (λ b. cond b (Some (f n x)) (get t q)) p.0)
])

-- two rows put and the second taken away, with the first put again
pub two_undone : {X : Type 0} (t : Table X) (n k : ℕ) (x y z : X) → n ≢ k → get t n ≡ Some z → get t k ≡ None → remove (put (put (put t n x) k y) n z) k ≡ t
two_undone t n k x y z apart there free = same_table _ _ (λ q. grind (arith, nat_tests, tables))

pub less_means : (k a : ℕ) → T (is_lt (nat_cmp k a)) → k < a
less_means k a h = grind (arith, nat_tests)

pub and_left : (a b : Bool) → T (a && b) → T a
and_left true b h = tt
and_left false b h = absurd h

pub and_right : (a b : Bool) → T (a && b) → T b
and_right true b h = h
and_right false b h = absurd h

pub find_here : {X : Type 0} (e : ℕ × X) (es : List (ℕ × X)) → find nat_cmp e.0 (e ∷ es) ≡ Some e.1
find_here e es = ap (λ b. cond b (Some e.1) (find nat_cmp e.0 es)) (unsigned_tied e.0 e.0 ∙ eq-eqb e.0 e.0 refl)

pub find_later : {X : Type 0} (q : ℕ) (e : ℕ × X) (es : List (ℕ × X)) → q ≢ e.0 → find nat_cmp q (e ∷ es) ≡ find nat_cmp q es
find_later q e es apart = ap (λ b. cond b (Some e.1) (find nat_cmp q es)) (unsigned_tied q e.0 ∙ ne_eqb q e.0 apart)

below_not_found : {X : Type 0} (k q : ℕ) (es : List (ℕ × X)) (y : X) → T (below_all nat_cmp k es) → find nat_cmp q es ≡ Some y → q ≢ k
below_not_found k q [] y h e same = cc
below_not_found k q (e ∷ es) y h is same =
    let l = less_means k e.0 (and_left _ _ h) in
    let apart : q ≢ e.0 = omega arith in
    below_not_found k q es y (and_right _ _ h) (sym (find_later q e es apart) ∙ is) same

-- the only number whose row passes the test
pub first_where_is : {X : Type 0} (p : ℕ → X → Bool) (t : Table X) (n : ℕ) (x : X) → get t n ≡ Some x → p n x ≡ true → ((q : ℕ) (y : X) → get t q ≡ Some y → p q y ≡ true → q ≡ n) → first_where p t ≡ n
unfolding first_where get
first_where_is {X = X} p t n x there passes only = first_in_is t.rows t.rising there only where
  first_in_is : (es : List (ℕ × X)) → T (is_sorted nat_cmp es) → find nat_cmp n es ≡ Some x → ((q : ℕ) (y : X) → find nat_cmp q es ≡ Some y → p q y ≡ true → q ≡ n) → first_in p es ≡ n
  first_in_is [] s there only = cc
  first_in_is (e ∷ es) s there only =
      elim (p e.0 e.1) as (λ b. p e.0 e.1 ≡ b → cond b e.0 (first_in p es) ≡ n) [
        | true ↦ λ t. only e.0 e.1 (find_here e es) t
        | false ↦ λ t.
            let apart : n ≢ e.0 = λ same. true≢false (sym passes ∙ ap (p n) (same_Some x e.1 (sym there ∙ ap (λ k. find nat_cmp k (e ∷ es)) same ∙ find_here e es)) ∙ ap (λ k. p k e.1) same ∙ t) in
            first_in_is es (and_right _ _ s) (sym (find_later n e es apart) ∙ there)
            (λ q y at holds. only q y (find_later q e es (below_not_found e.0 q es y (and_left _ _ s) at) ∙ at) holds)
      ] refl

-- no row passes the test
abbrev pub NonePasses : {X : Type 0} → (ℕ → X → Bool) → Table X → Type 0
NonePasses {X = X} p t = (q : ℕ) (y : X) → get t q ≡ Some y → p q y ≡ false

pub first_where_zero : {X : Type 0} (p : ℕ → X → Bool) (t : Table X) → NonePasses p t → first_where p t ≡ 0
unfolding first_where get
first_where_zero {X = X} p t none = first_in_none t.rows t.rising none where
  first_in_none : (es : List (ℕ × X)) → T (is_sorted nat_cmp es) → ((q : ℕ) (y : X) → find nat_cmp q es ≡ Some y → p q y ≡ false) → first_in p es ≡ 0
  first_in_none [] s none = refl
  first_in_none (e ∷ es) s none = ap (λ b. cond b e.0 (first_in p es)) (none e.0 e.1 (find_here e es))
      ∙ first_in_none es (and_right _ _ s) (λ q y at. none q y (find_later q e es (below_not_found e.0 q es y (and_left _ _ s) at) ∙ at))

pub all_where_none : {X : Type 0} (p : ℕ → X → Bool) (t : Table X) → NonePasses p t → all_where p t ≡ []
unfolding all_where get
all_where_none {X = X} p t none = all_in_none t.rows t.rising none where
  all_in_none : (es : List (ℕ × X)) → T (is_sorted nat_cmp es) → ((q : ℕ) (y : X) → find nat_cmp q es ≡ Some y → p q y ≡ false) → all_in p es ≡ []
  all_in_none [] s none = refl
  all_in_none (e ∷ es) s none = ap (λ b. cond b (e.0 ∷ all_in p es) (all_in p es)) (none e.0 e.1 (find_here e es))
      ∙ all_in_none es (and_right _ _ s) (λ q y at. none q y (find_later q e es (below_not_found e.0 q es y (and_left _ _ s) at) ∙ at))

pub zero_first_where : {X : Type 0} (p : ℕ → X → Bool) (t : Table X) → ((q : ℕ) (y : X) → get t q ≡ Some y → q ≢ 0) → first_where p t ≡ 0 → NonePasses p t
unfolding first_where get
zero_first_where {X = X} p t pos zero q y at = passes_none t.rows t.rising pos zero q y at where
  passes_none : (es : List (ℕ × X)) → T (is_sorted nat_cmp es) → ((q : ℕ) (y : X) → find nat_cmp q es ≡ Some y → q ≢ 0) → first_in p es ≡ 0 → (q : ℕ) (y : X) → find nat_cmp q es ≡ Some y → p q y ≡ false
  passes_none [] s pos zero q y at = cc
  passes_none (e ∷ es) s pos zero q y at =
      elim (p e.0 e.1) as (λ b. p e.0 e.1 ≡ b → cond b e.0 (first_in p es) ≡ 0 → p q y ≡ false) [
        | true ↦ λ t z. absurd (pos e.0 e.1 (find_here e es) z)
        | false ↦ λ t z. elim (eqb_tells q e.0) [
          | inl a ↦ ap (p q) (same_Some y e.1 (sym at ∙ ap (λ k. find nat_cmp k (e ∷ es)) a.1 ∙ find_here e es)) ∙ ap (λ k. p k e.1) a.1 ∙ t
          | inr a ↦ passes_none es (and_right _ _ s) (λ k x f. pos k x (find_later k e es (below_not_found e.0 k es x (and_left _ _ s) f) ∙ f)) z q y (sym (find_later q e es a.1) ∙ at)
        ]
      ] refl zero

pub none_all_where : {X : Type 0} (p : ℕ → X → Bool) (t : Table X) → all_where p t ≡ [] → NonePasses p t
unfolding all_where get
none_all_where {X = X} p t zero q y at = absent_in_all t.rows t.rising zero q y at where
  absent_in_all : (es : List (ℕ × X)) → T (is_sorted nat_cmp es) → all_in p es ≡ [] → (q : ℕ) (y : X) → find nat_cmp q es ≡ Some y → p q y ≡ false
  absent_in_all [] s zero q y at = cc
  absent_in_all (e ∷ es) s zero q y at =
      elim (p e.0 e.1) as (λ b. p e.0 e.1 ≡ b → cond b (e.0 ∷ all_in p es) (all_in p es) ≡ [] → p q y ≡ false) [
        | true ↦ λ t z. absurd (no_cons e.0 (all_in p es) z)
        | false ↦ λ t z. elim (eqb_tells q e.0) [
          | inl a ↦ ap (p q) (same_Some y e.1 (sym at ∙ ap (λ k. find nat_cmp k (e ∷ es)) a.1 ∙ find_here e es)) ∙ ap (λ k. p k e.1) a.1 ∙ t
          | inr a ↦ absent_in_all es (and_right _ _ s) z q y (sym (find_later q e es a.1) ∙ at)
        ]
      ] refl zero

-- ---- what stands at a number

pub row_some : {X : Type 0} (o : Option X) → is_some o ≡ true → (x : X) × (o ≡ Some x)
row_some None h = absurd (true≢false (sym h))
row_some (Some x) h = (x, refl)

pub no_row : {X : Type 0} (o : Option X) → is_some o ≡ false → o ≡ None
no_row None e = refl
no_row (Some x) e = absurd (true≢false e)

pub get-put_here : {X : Type 0} (t : Table X) (n : ℕ) (x : X) → get (put t n x) n ≡ Some x
get-put_here t n x = get-put t n x n ∙ ap (λ b. cond b (Some x) (get t n)) (eq-eqb n n refl)

pub get-put_other : {X : Type 0} (t : Table X) (n : ℕ) (x : X) (q : ℕ) → q ≢ n → get (put t n x) q ≡ get t q
get-put_other t n x q ne = get-put t n x q ∙ ap (λ b. cond b (Some x) (get t q)) (ne_eqb q n ne)

pub get-remove_here : {X : Type 0} (t : Table X) (n : ℕ) → get (remove t n) n ≡ None
get-remove_here t n = get-remove t n n ∙ ap (λ b. cond b None (get t n)) (eq-eqb n n refl)

pub get-remove_other : {X : Type 0} (t : Table X) (n q : ℕ) → q ≢ n → get (remove t n) q ≡ get t q
get-remove_other t n q ne = get-remove t n q ∙ ap (λ b. cond b None (get t q)) (ne_eqb q n ne)

-- a number with a row isn't one without
pub row_elsewhere : {X : Type 0} (t : Table X) (q n : ℕ) → Has t q → get t n ≡ None → q ≢ n
row_elsewhere t q n there free e = true≢false (sym there ∙ ap is_some (ap (get t) e ∙ free))

-- a number in use isn't above all numbers in use
pub in_use_within : {X : Type 0} (t : Table X) (n : ℕ) → ((q : ℕ) → n < q → get t q ≡ None) → (q : ℕ) → Has t q → q ≤ n
in_use_within t n free q there = elim (at_most_or_above q n) [ inl l ↦ l | inr l ↦ absurd (true≢false (sym there ∙ ap is_some (free q l))) ]

-- ---- a row put twice, and two rows put or taken in either order

pub put-put : {X : Type 0} (t : Table X) (n : ℕ) (x y : X) → put (put t n x) n y ≡ put t n y
put-put t n x y = same_table _ _ (λ q. grind (arith, nat_tests, tables))

pub put_turned : {X : Type 0} (t : Table X) (n k : ℕ) (x y : X) → n ≢ k → put (put t n x) k y ≡ put (put t k y) n x
put_turned t n k x y ne = same_table _ _ (λ q. grind (arith, nat_tests, tables))

pub remove_turned : {X : Type 0} (t : Table X) (n k : ℕ) → remove (remove t n) k ≡ remove (remove t k) n
remove_turned t n k = same_table _ _ (λ q. grind (arith, nat_tests, tables))

-- ---- rewritings

pub map_alike : {X : Type 0} (g h : ℕ → X → X) (t : Table X) → ((q : ℕ) (x : X) → get t q ≡ Some x → g q x ≡ h q x) → map_rows g t ≡ map_rows h t
map_alike {X} g h t e = same_table (map_rows g t) (map_rows h t) (λ q. get-map_rows g t q ∙ row_alike q (get t q) refl ∙ sym (get-map_rows h t q)) where
  row_alike : (q : ℕ) (o : Option X) → get t q ≡ o → option_map (g q) o ≡ option_map (h q) o
  row_alike q None at = refl
  row_alike q (Some x) at = ap Some (e q x at)

pub all_in-map : {X : Type 0} (f : ℕ → X → X) (p : ℕ → X → Bool) (es : List (ℕ × X)) → all_in p (map_entries f es) ≡ all_in (λ q x. p q (f q x)) es
all_in-map f p [] = refl
all_in-map f p (e ∷ es) = ap (λ ns. cond (p e.0 (f e.0 e.1)) (e.0 ∷ ns) ns) (all_in-map f p es)

pub all_where-map : {X : Type 0} (f : ℕ → X → X) (p : ℕ → X → Bool) (t : Table X) → all_where p (map_rows f t) ≡ all_where (λ q x. p q (f q x)) t
unfolding all_where map_rows
all_where-map f p t = all_in-map f p t.rows

pub greatest_in-map : {X : Type 0} (f : ℕ → X → X) (es : List (ℕ × X)) → greatest_in (map_entries f es) ≡ greatest_in es
greatest_in-map f [] = refl
greatest_in-map f (e ∷ []) = refl
greatest_in-map f (e ∷ d ∷ es) = greatest_in-map f (d ∷ es)

pub greatest-map : {X : Type 0} (f : ℕ → X → X) (t : Table X) → greatest (map_rows f t) ≡ greatest t
unfolding greatest map_rows
greatest-map f t = greatest_in-map f t.rows

-- ---- how often a number stands in the list of those whose rows pass a test

abbrev pub passes : {X : Type 0} → (ℕ → X → Bool) → ℕ → Option X → ℕ
passes p q None = 0
passes p q (Some x) = cond (p q x) 1 0

module _ {X : Type 0} where
  not_below : (k : ℕ) (es : List (ℕ × X)) → T (below_all nat_cmp k es) → find nat_cmp k es ≡ None
  not_below k [] h = refl
  not_below k (e ∷ es) h =
      let l = less_means k e.0 (and_left _ _ h) in
      let apart : k ≢ e.0 = omega arith in
      find_later k e es apart ∙ not_below k es (and_right _ _ h)

  pub count-all_where : (p : ℕ → X → Bool) (t : Table X) (q : ℕ) → count q (all_where p t) ≡ passes p q (get t q)
  unfolding all_where get
  count-all_where p t q = count_in_all t.rows t.rising where
    count_in_all : (es : List (ℕ × X)) → T (is_sorted nat_cmp es) → count q (all_in p es) ≡ passes p q (find nat_cmp q es)
    count_in_all [] s = refl
    count_in_all (e ∷ es) s = elim (eqb_tells q e.0) [
      | inl a ↦
          let rest : count q (all_in p es) ≡ 0 = count_in_all es (and_right _ _ s) ∙ ap (passes p q) (ap (λ k. find nat_cmp k es) a.1 ∙ not_below e.0 es (and_left _ _ s)) in
          elim (p e.0 e.1) as (λ b. p e.0 e.1 ≡ b → count q (cond b (e.0 ∷ all_in p es) (all_in p es)) ≡ passes p q (find nat_cmp q (e ∷ es))) [
            | true ↦ λ h. omega (arith, rest, ap (tick q) (sym a.1), tick_same q, ap (passes p q) (ap (λ k. find nat_cmp k (e ∷ es)) a.1 ∙ find_here e es), ap {B = ℕ} (λ k. cond (p k e.1) 1 0) a.1, ap {B = ℕ} (λ b. cond b 1 0) h)
            | false ↦ λ h. rest ∙ sym (ap (passes p q) (ap (λ k. find nat_cmp k (e ∷ es)) a.1 ∙ find_here e es) ∙ ap {B = ℕ} (λ k. cond (p k e.1) 1 0) a.1 ∙ ap {B = ℕ} (λ b. cond b 1 0) h)
          ] refl
      | inr a ↦
          let rest : count q (all_in p es) ≡ passes p q (find nat_cmp q (e ∷ es)) = count_in_all es (and_right _ _ s) ∙ ap (passes p q) (sym (find_later q e es a.1)) in
          elim (p e.0 e.1) as (λ b. count q (cond b (e.0 ∷ all_in p es) (all_in p es)) ≡ passes p q (find nat_cmp q (e ∷ es))) [
            | true ↦ omega (arith, rest, tick_other q e.0 a.1)
            | false ↦ rest
          ]
    ]
