-- Tables read off rows.
use Rattle.arena_rows.proofs.Prelude.{◌≡◌, ◌≢◌, ℕ, zero, suc, ◌-◌, ◌≤◌, ◌<◌, Bool, true, false, cond, nat_eq, nat_lt, nat_le, ◌&&◌, List, [], ◌∷◌, length, Option, Some, None, is_some, refl, sym, ap, ◌∙◌, arith, true≢false, ne_eqb, nat_tests, get, put, remove, empty, get-empty, get-put, get-remove, get-tabulate, same_table, row_at, map_row, table_of, Fits}

module _ {X : Type 0} where
  pub row_past : (rows : List (Option X)) (q : ℕ) → length rows ≤ q → row_at rows q ≡ None
  row_past [] q h = refl
  row_past (x ∷ rows) zero h = absurd (omega arith)
  row_past (x ∷ rows) (suc q) h = row_past rows q (omega arith)

  pub row_within : (rows : List (Option X)) (q : ℕ) → is_some (row_at rows q) ≡ true → q < length rows
  row_within [] q h = absurd (true≢false (sym h))
  row_within (x ∷ rows) zero h = omega arith
  row_within (x ∷ rows) (suc q) h = omega (arith, row_within rows q h)

  module _ {Y : Type 0} (f : X → Y) where
    pub is_some-map : (o : Option X) → is_some (map_row f o) ≡ is_some o
    is_some-map None = refl
    is_some-map (Some x) = refl

    below_or : (rows : List (Option X)) (q : ℕ) → cond (nat_lt q (length rows)) (map_row f (row_at rows q)) None ≡ map_row f (row_at rows q)
    below_or rows q = row_bounded (nat_lt q (length rows)) refl where
      row_bounded : (b : Bool) → nat_lt q (length rows) ≡ b → cond b (map_row f (row_at rows q)) None ≡ map_row f (row_at rows q)
      row_bounded true e = refl
      row_bounded false e = let p : length rows ≤ q = grind (arith, nat_tests) in sym (ap (map_row f) (row_past rows q p))

    pub get-table_of : (rows : List (Option X)) (q : ℕ) → get (table_of f rows) q ≡ map_row f (row_at rows q)
    get-table_of rows q = get-tabulate (λ k. map_row f (row_at rows k)) (length rows) q ∙ below_or rows q

    pub read_row : (rows : List (Option X)) (q : ℕ) (x : X) → row_at rows q ≡ Some x → get (table_of f rows) q ≡ Some (f x)
    read_row rows q x at = get-table_of rows q ∙ ap (map_row f) at

    pub has-row : (rows : List (Option X)) (q : ℕ) → is_some (get (table_of f rows) q) ≡ true → is_some (row_at rows q) ≡ true
    has-row rows q h = sym (ap is_some (get-table_of rows q) ∙ is_some-map (row_at rows q)) ∙ h

    pub table_of-empty : table_of f [] ≡ empty
    table_of-empty = same_table (table_of f []) empty (λ q. get-table_of [] q ∙ sym (get-empty q))

    map-cond : (b : Bool) (o p : Option X) → map_row f (cond b o p) ≡ cond b (map_row f o) (map_row f p)
    map-cond true o p = refl
    map-cond false o p = refl

    pub table_of-put : (rows new : List (Option X)) (n : ℕ) (x : X) → ((q : ℕ) → row_at new q ≡ cond (nat_eq q n) (Some x) (row_at rows q)) → table_of f new ≡ put (table_of f rows) n (f x)
    table_of-put rows new n x is = same_table (table_of f new) (put (table_of f rows) n (f x)) (λ q.
        get-table_of new q ∙ ap (map_row f) (is q) ∙ map-cond (nat_eq q n) (Some x) (row_at rows q) ∙ ap (cond (nat_eq q n) (Some (f x))) (sym (get-table_of rows q)) ∙ sym (get-put (table_of f rows) n (f x) q))

    pub table_of-remove : (rows new : List (Option X)) (n : ℕ) → ((q : ℕ) → row_at new q ≡ cond (nat_eq q n) None (row_at rows q)) → table_of f new ≡ remove (table_of f rows) n
    table_of-remove rows new n is = same_table (table_of f new) (remove (table_of f rows) n) (λ q.
        get-table_of new q ∙ ap (map_row f) (is q) ∙ map-cond (nat_eq q n) None (row_at rows q) ∙ ap (cond (nat_eq q n) None) (sym (get-table_of rows q)) ∙ sym (get-remove (table_of f rows) n q))

  pub table_of-same : {Y : Type 0} (f g : X → Y) (rows new : List (Option X)) → ((q : ℕ) → map_row g (row_at new q) ≡ map_row f (row_at rows q)) → table_of g new ≡ table_of f rows
  table_of-same f g rows new is = same_table (table_of g new) (table_of f rows) (λ q. get-table_of g new q ∙ is q ∙ sym (get-table_of f rows q))

  -- a row at a free number in reach
  pub fits_within : (rows : List (Option X)) (n : ℕ) → nat_le 1 n && nat_le n (length rows - 1) ≡ true → n < length rows
  fits_within rows n h = grind (arith, nat_tests)

pub has_is : {X Y : Type 0} (f : X → Y) (rows : List (Option X)) (q : ℕ) → is_some (get (table_of f rows) q) ≡ is_some (row_at rows q)
has_is f rows q = ap is_some (get-table_of f rows q) ∙ is_some-map f (row_at rows q)

pub fits-empty : {X : Type 0} → Fits {X = X} []
fits-empty = record { no_zero = refl; within = omega arith }

-- a row written at a number that has its room
pub fits-write : {X : Type 0} (rows new : List (Option X)) (n : ℕ) (x : Option X) → Fits rows → n ≢ 0 → length new ≡ length rows → ((q : ℕ) → row_at new q ≡ cond (nat_eq q n) x (row_at rows q)) → Fits new
fits-write rows new n x fits ne len is = record {
  no_zero = is 0 ∙ ap (λ b. cond b x (row_at rows 0)) (ne_eqb 0 n (λ e. ne (sym e))) ∙ fits.no_zero;
  within = omega (arith, fits.within, len);
}

pub not_zero : (n k : ℕ) → nat_le 1 n && nat_le n k ≡ true → n ≢ 0
not_zero n k h = grind (arith, nat_tests)

pub row_not_zero : {X : Type 0} (rows : List (Option X)) (n : ℕ) → Fits rows → is_some (row_at rows n) ≡ true → n ≢ 0
row_not_zero rows n fits h e = true≢false (sym h ∙ ap (λ k. is_some (row_at rows k)) e ∙ ap is_some fits.no_zero)
