-- A finite table, from numbers to rows of one kind.
--     get, put, remove      the row of a number;  the table with that row;  without it
--     map_rows              the table with each row rewritten, by its number
--     first_where, all_where      the least number whose row passes a test, or 0;  all of them, rising
--     greatest              the greatest number in use, or 0
--     numbers               the numbers in use, rising
--     get-.., tables        what `get` answers after each, and the set of these
--     tabulate              the table of the rows that a function gives below a number
--     same_table            two tables that answer alike are equal
use Rattle.std.specs.Prelude.{◌≡◌, ℕ, zero, suc, nat_lt, Bool, true, false, cond, not, ◌&&◌, nat_eq, T, List, [], ◌∷◌, map, Option, Some, None, option_map, is_some, refl}
use Rattle.std.proofs.Common.{sym, ap, subst, ◌∙◌, arith, inl, inr}
use Rattle.std.proofs.lemmas.Bool.Decides.{nat_tests, eqb_tells}
use mathlib.Core.HLevel.{Σ_prop_path}
use lib.Dec.{T_prop, eqb→eq}
use base.Stored.{Coded, coded×, coded_list, coded_via, coded_ℕ}
use Rattle.std.specs.Ordering.{nat_cmp, eq_by_cmp, is_eq, is_lt}
use Rattle.std.specs.Cmp.{nat_cmp_total, unsigned_tied, alike_right, eq_by_cmp_equiv}
use Rattle.std.specs.FinMap.{nat_cmp-IsAntisymmetric}
use Rattle.std.specs.FinMap.Entries as entries
use Rattle.std.specs.FinMap.Entries.{is_sorted, find, where_key, below_all}

pub record Table (X : Type 0) : Type 0 where
  pub rows : List (ℕ × X)
  pub rising : T (is_sorted nat_cmp rows)

module _ {X : Type 0} where
  pub same_rows : (s t : Table X) → s.rows ≡ t.rows → s ≡ t
  same_rows s t e =
      let pairs : ◌≡◌ {A = (es : List (ℕ × X)) × T (is_sorted nat_cmp es)} (s.rows, s.rising) (t.rows, t.rising) = Σ_prop_path (λ es. T_prop _) e in
      λ i. record { rows = (pairs i).0; rising = (pairs i).1 }

  abbrev pub code : Coded X → Coded (Table X)
  code x = coded_via (coded_list (coded× coded_ℕ x)) (λ t. t.rows) same_rows

  unfoldable pub empty : Table X
  empty = record { rows = []; rising = tt }

  unfoldable pub get : Table X → ℕ → Option X
  get t n = find nat_cmp n t.rows

  abbrev pub has : Table X → ℕ → Bool
  has t n = is_some (get t n)

  unfoldable pub put : Table X → ℕ → X → Table X
  put t n x = record { rows = entries.put nat_cmp n x t.rows; rising = entries.is_sorted-put nat_cmp nat_cmp_total n x t.rows t.rising }

  unfoldable pub remove : Table X → ℕ → Table X
  remove t n = record { rows = where_key nat_cmp (λ k. not (eq_by_cmp nat_cmp n k)) t.rows; rising = entries.is_sorted-where_key nat_cmp _ t.rows t.rising }

  abbrev pub numbers : Table X → List ℕ
  numbers t = map (λ e. e.0) t.rows

  abbrev pub first_in : (ℕ → X → Bool) → List (ℕ × X) → ℕ
  first_in p [] = 0
  first_in p (e ∷ es) = cond (p e.0 e.1) e.0 (first_in p es)

  unfoldable pub first_where : (ℕ → X → Bool) → Table X → ℕ
  first_where p t = first_in p t.rows

  -- the numbers whose rows pass a test, rising
  abbrev pub all_in : (ℕ → X → Bool) → List (ℕ × X) → List ℕ
  all_in p [] = []
  all_in p (e ∷ es) = cond (p e.0 e.1) (e.0 ∷ all_in p es) (all_in p es)

  unfoldable pub all_where : (ℕ → X → Bool) → Table X → List ℕ
  all_where p t = all_in p t.rows

  -- the greatest number in use, or 0
  abbrev pub greatest_in : List (ℕ × X) → ℕ
  greatest_in [] = 0
  greatest_in (e ∷ []) = e.0
  greatest_in (e ∷ f ∷ es) = greatest_in (f ∷ es)

  unfoldable pub greatest : Table X → ℕ
  greatest t = greatest_in t.rows

  turned : (b : Bool) (x y : Option X) → cond (not b) x y ≡ cond b y x
  turned true x y = refl
  turned false x y = refl

  pub get-empty : (q : ℕ) → get empty q ≡ None
  unfolding get empty
  get-empty q = refl

  pub get-put : (t : Table X) (n : ℕ) (x : X) (q : ℕ) → get (put t n x) q ≡ cond (nat_eq q n) (Some x) (get t q)
  unfolding get put
  get-put t n x q = entries.find-put nat_cmp nat_cmp_total q n x t.rows ∙ ap (λ b. cond b (Some x) (find nat_cmp q t.rows)) (unsigned_tied q n)

  pub get-remove : (t : Table X) (n q : ℕ) → get (remove t n) q ≡ cond (nat_eq q n) None (get t q)
  unfolding get remove
  get-remove t n q = entries.find-where_key nat_cmp (λ k. not (eq_by_cmp nat_cmp n k)) q (λ x t. ap (λ r. not (is_eq r)) (sym (alike_right nat_cmp_total q x n t))) t.rows
      ∙ turned (eq_by_cmp nat_cmp n q) _ _ ∙ ap (λ b. cond b None (find nat_cmp q t.rows)) ((eq_by_cmp_equiv nat_cmp_total).symm n q ∙ unsigned_tied q n)

  pub same_table : (s t : Table X) → ((q : ℕ) → get s q ≡ get t q) → s ≡ t
  unfolding get
  same_table s t is = same_rows s t (entries.same_entries nat_cmp nat_cmp_total nat_cmp-IsAntisymmetric s.rows t.rows s.rising t.rising is)

tied : (q k : ℕ) → eq_by_cmp nat_cmp q k ≡ true → q ≡ k
tied q k t = eqb→eq q k (subst T (sym (sym (unsigned_tied q k) ∙ t)) tt)

module _ {X Y : Type 0} (f : ℕ → X → Y) where
  abbrev pub map_entries : List (ℕ × X) → List (ℕ × Y)
  map_entries [] = []
  map_entries (e ∷ es) = (e.0, f e.0 e.1) ∷ map_entries es

  below-map : (k : ℕ) (es : List (ℕ × X)) → below_all nat_cmp k (map_entries es) ≡ below_all nat_cmp k es
  below-map k [] = refl
  below-map k (e ∷ es) = λ i. is_lt (nat_cmp k e.0) && below-map k es i

  pub sorted-map : (es : List (ℕ × X)) → is_sorted nat_cmp (map_entries es) ≡ is_sorted nat_cmp es
  sorted-map [] = refl
  sorted-map (e ∷ es) = λ i. below-map e.0 es i && sorted-map es i

  find-map : (q : ℕ) (es : List (ℕ × X)) → find nat_cmp q (map_entries es) ≡ option_map (f q) (find nat_cmp q es)
  find-map q [] = refl
  find-map q (e ∷ es) =
      elim (eq_by_cmp nat_cmp q e.0) as (λ b. eq_by_cmp nat_cmp q e.0 ≡ b → cond b (Some (f e.0 e.1)) (find nat_cmp q (map_entries es)) ≡ option_map (f q) (cond b (Some e.1) (find nat_cmp q es))) [
        | true ↦ λ t. ap (λ k. Some (f k e.1)) (sym (tied q e.0 t))
        | false ↦ λ _. find-map q es
      ] refl

  unfoldable pub map_rows : Table X → Table Y
  map_rows t = record { rows = map_entries t.rows; rising = subst T (sym (sorted-map t.rows)) t.rising }

  pub get-map_rows : (t : Table X) (q : ℕ) → get (map_rows t) q ≡ option_map (f q) (get t q)
  unfolding get map_rows
  get-map_rows t q = find-map q t.rows

module _ {X : Type 0} where
  -- the table with the row at n, if there is a row
  abbrev pub put_option : Table X → ℕ → Option X → Table X
  put_option t n None = t
  put_option t n (Some x) = put t n x

  -- the rows that f gives below n
  pub tabulate : (ℕ → Option X) → ℕ → Table X
  tabulate f zero = empty
  tabulate f (suc n) = put_option (tabulate f n) n (f n)

  get-put_option : (t : Table X) (n : ℕ) (o : Option X) (q : ℕ) → get t n ≡ None → get (put_option t n o) q ≡ cond (nat_eq q n) o (get t q)
  get-put_option t n None q free = elim (eqb_tells q n) [ inl p ↦ ap (get t) p.1 ∙ free ∙ sym (ap (λ b. cond b None (get t q)) p.0) | inr p ↦ sym (ap (λ b. cond b None (get t q)) p.0) ]
  get-put_option t n (Some x) q free = get-put t n x q

  cond-below : (f : ℕ → Option X) (n q : ℕ) → cond (nat_eq q n) (f n) (cond (nat_lt q n) (f q) None) ≡ cond (nat_lt q (suc n)) (f q) None
  cond-below f n q = elim (eqb_tells q n) [
    | inl p ↦ let e : nat_lt q (suc n) ≡ true = grind (arith, nat_tests) in ap (λ b. cond b (f n) (cond (nat_lt q n) (f q) None)) p.0 ∙ sym (ap f p.1) ∙ sym (ap (λ b. cond b (f q) None) e)
    | inr p ↦ let e : nat_lt q (suc n) ≡ nat_lt q n = grind (arith, nat_tests) in ap (λ b. cond b (f n) (cond (nat_lt q n) (f q) None)) p.0 ∙ sym (ap (λ b. cond b (f q) None) e)
  ]

  none_past : (f : ℕ → Option X) (n : ℕ) → cond (nat_lt n n) (f n) None ≡ None
  none_past f n = let e : nat_lt n n ≡ false = grind (arith, nat_tests) in ap (λ b. cond b (f n) None) e

  none_below_zero : (f : ℕ → Option X) (q : ℕ) → cond (nat_lt q 0) (f q) None ≡ None
  none_below_zero f q = let e : nat_lt q 0 ≡ false = grind (arith, nat_tests) in ap (λ b. cond b (f q) None) e

  pub get-tabulate : (f : ℕ → Option X) (n q : ℕ) → get (tabulate f n) q ≡ cond (nat_lt q n) (f q) None
  unfolding tabulate
  get-tabulate f zero q = get-empty q ∙ sym (none_below_zero f q)
  get-tabulate f (suc n) q = get-put_option (tabulate f n) n (f n) q (get-tabulate f n n ∙ none_past f n) ∙ ap (cond (nat_eq q n) (f n)) (get-tabulate f n q) ∙ cond-below f n q

pub ruleset tables = (get-empty, get-put, get-remove, get-map_rows)
