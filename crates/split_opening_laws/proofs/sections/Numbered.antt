-- Rows put at the numbers that follow a number, and numbers renamed by two lists.
use Rattle.split_opening_laws.proofs.Prelude.{◌≡◌, ◌≢◌, ℕ, zero, suc, ◌+◌, ◌≤◌, ◌<◌, cond, nat_eq, List, [], ◌∷◌, ◌++◌, length, Some, refl, sym, ap, ◌∙◌, subst, arith, ◌⊎◌, inl, inr, false, get_or, ne_eqb, eqb_tells, nat_tests, IsIn, tick, count, IsApart, Table, EdgeRow, tick_same, tick_other, map-put, get-put_here, get-put_other, nat_eq_itself, nat_eq_turned, numbers_after, renamed, both_lists, with_rim, with_rows, get-put_cases}
use Rattle.euler_operators.specs.Table as table

-- ---- rows

module _ {X : Type 0} (t : Table X) (k : ℕ) (row : ℕ → X) where
  pub rows_at : (i j : ℕ) → j < i → table.get (with_rows t k row i) (k + suc j) ≡ Some (row j)
  rows_at zero j lt = absurd (omega arith)
  rows_at (suc i) j lt = elim (eqb_tells j i) [
    | inl e ↦ subst (λ n. table.get (with_rows t k row (suc i)) (k + suc n) ≡ Some (row n)) (sym e.1) (get-put_here (with_rows t k row i) (k + suc i) (row i))
    | inr e ↦ get-put_other (with_rows t k row i) (k + suc i) (row i) (k + suc j) (λ q. e.1 (omega arith)) ∙ rows_at i j (omega arith)
  ]

  pub rows_low : (i q : ℕ) → q ≤ k → table.get (with_rows t k row i) q ≡ table.get t q
  rows_low zero q le = refl
  rows_low (suc i) q le = get-put_other (with_rows t k row i) (k + suc i) (row i) q (λ s. omega arith) ∙ rows_low i q le

  pub rows_high : (i q : ℕ) → k + i < q → table.get (with_rows t k row i) q ≡ table.get t q
  rows_high zero q lt = refl
  rows_high (suc i) q lt = get-put_other (with_rows t k row i) (k + suc i) (row i) q (λ s. omega arith) ∙ rows_high i q (omega arith)

  -- a number is one of these or answers as before
  pub rows_split : (i q : ℕ) → ((j : ℕ) × (j < i) × (q ≡ k + suc j)) ⊎ (table.get (with_rows t k row i) q ≡ table.get t q)
  rows_split zero q = inr refl
  rows_split (suc i) q = grind (arith, get-put_other, rows_split i q)

  pub rows_same : (new : ℕ → X) (i : ℕ) → ((j : ℕ) → j < i → row j ≡ new j) → with_rows t k row i ≡ with_rows t k new i
  rows_same new zero e = refl
  rows_same new (suc i) e = λ n. table.put (rows_same new i (λ j lt. e j (omega arith)) n) (k + suc i) (e i (omega arith) n)

pub rows_map : {X : Type 0} (f : ℕ → X → X) (t : Table X) (k : ℕ) (row : ℕ → X) (i : ℕ) → table.map_rows f (with_rows t k row i) ≡ with_rows (table.map_rows f t) k (λ j. f (k + suc j) (row j)) i
rows_map f t k row zero = refl
rows_map f t k row (suc i) = map-put f (with_rows t k row i) (k + suc i) (row i) ∙ ap (λ s. table.put s (k + suc i) (f (k + suc i) (row i))) (rows_map f t k row i)

-- ---- numbers after one

pub length-numbers_after : (k i : ℕ) → length (numbers_after k i) ≡ i
length-numbers_after k zero = refl
length-numbers_after k (suc i) = ap suc (length-numbers_after (k + 1) i)

pub numbers_at : (k i j : ℕ) → j < i → get_or (numbers_after k i) j 0 ≡ k + suc j
numbers_at k zero j lt = absurd (omega arith)
numbers_at k (suc i) zero lt = omega arith
numbers_at k (suc i) (suc j) lt = numbers_at (k + 1) i j (omega arith) ∙ omega arith

-- ---- pairs of two lists

pub both_none : (xs : List ℕ) → both_lists xs [] ≡ []
both_none [] = refl
both_none (x ∷ xs) = refl

-- one item more of the second list
pub both_more : (xs ys : List ℕ) (y : ℕ) → length ys < length xs → both_lists xs (ys ++ y ∷ []) ≡ both_lists xs ys ++ (get_or xs (length ys) 0, y) ∷ []
both_more [] ys y lt = absurd (omega arith)
both_more (x ∷ xs) [] y lt = ap (λ t. (x, y) ∷ t) (both_none xs)
both_more (x ∷ xs) (z ∷ ys) y lt = ap (λ t. (x, z) ∷ t) (both_more xs ys y (omega arith))

-- a number is renamed to where its place leads, or stays, and then it has no place
pub renamed_cases : (xs ys : List ℕ) (u : ℕ) →
    ((j : ℕ) × (j < length xs) × (j < length ys) × (get_or xs j 0 ≡ u) × (renamed (both_lists xs ys) u ≡ get_or ys j 0))
    ⊎ ((renamed (both_lists xs ys) u ≡ u) × ((j : ℕ) → j < length xs → j < length ys → get_or xs j 0 ≢ u))
renamed_cases [] ys u = inr (refl, λ j l n. absurd (omega arith))
renamed_cases (x ∷ xs) [] u = inr (refl, λ j l n. absurd (omega arith))
renamed_cases (x ∷ xs) (y ∷ ys) u = elim (eqb_tells x u) [
  | inl e ↦ inl (0, omega arith, omega arith, e.1, ap (λ b. cond b y (renamed (both_lists xs ys) u)) e.0)
  | inr e ↦
      let skip : renamed (both_lists (x ∷ xs) (y ∷ ys)) u ≡ renamed (both_lists xs ys) u = ap (λ b. cond b y (renamed (both_lists xs ys) u)) e.0 in
      elim (renamed_cases xs ys u) [
        | inl p ↦ inl (suc p.0, omega (arith, p.1), omega (arith, p.2), p.3, skip ∙ p.4)
        | inr p ↦ inr (skip ∙ p.0, later p.1 e.1)
      ]
] where
  later : ((j : ℕ) → j < length xs → j < length ys → get_or xs j 0 ≢ u) → x ≢ u → (j : ℕ) → j < suc (length xs) → j < suc (length ys) → get_or (x ∷ xs) j 0 ≢ u
  later p ne zero l n = ne
  later p ne (suc j) l n = p j (omega arith) (omega arith)

-- no pair leads to x
abbrev pub Misses : ℕ → List (ℕ × ℕ) → Type 0
Misses x [] = Unit {0}
Misses x (p ∷ ps) = (p.1 ≢ x) × Misses x ps

pub misses_both : (x : ℕ) (xs ys : List ℕ) → ((y : ℕ) → IsIn y ys → y ≢ x) → Misses x (both_lists xs ys)
misses_both x [] ys e = tt
misses_both x (z ∷ xs) [] e = tt
misses_both x (z ∷ xs) (y ∷ ys) e = (e y (omega (arith, tick_same y)), misses_both x xs ys (λ q i. e q (omega (arith, i))))

-- one pair more: what would stay x goes on to y
pub renamed_more : (ps : List (ℕ × ℕ)) (x y u : ℕ) → Misses x ps → renamed (ps ++ (x, y) ∷ []) u ≡ cond (nat_eq (renamed ps u) x) y (renamed ps u)
renamed_more [] x y u m = ap (λ b. cond b y u) (nat_eq_turned x u)
renamed_more (p ∷ ps) x y u m = grind (arith, ne_eqb, renamed_more ps x y u m.1)

-- ---- numbers renamed by two lists, and numbers that follow a number

-- a number keeps its name or takes one of the second list
pub renamed_one : (xs ys : List ℕ) (x : ℕ) → (renamed (both_lists xs ys) x ≡ x) ⊎ IsIn (renamed (both_lists xs ys) x) ys
renamed_one [] ys x = inl refl
renamed_one (a ∷ others) [] x = inl refl
renamed_one (a ∷ others) (y ∷ ys) x = grind (arith, tick_same, renamed_one others ys x)

-- one that isn't in the first list keeps its name
pub renamed_not : (xs ys : List ℕ) (x : ℕ) → count x xs ≡ 0 → renamed (both_lists xs ys) x ≡ x
renamed_not [] ys x z = refl
renamed_not (a ∷ others) [] x z = refl
renamed_not (a ∷ others) (y ∷ ys) x z = grind (arith, tick_same, renamed_not others ys x (omega (arith, z)))

pub in_numbers : (k n x : ℕ) → IsIn x (numbers_after k n) → (k < x) × (x ≤ k + n)
in_numbers k zero x i = absurd (omega arith)
in_numbers k (suc n) x i = elim (eqb_tells x (k + 1)) [
  | inl e ↦ (omega (arith, e.1), omega (arith, e.1))
  | inr e ↦ let r = in_numbers (k + 1) n x (omega (arith, i, tick_other x (k + 1) e.1)) in (omega (arith, r.0), omega (arith, r.1))
]

pub numbers_in : (k n x : ℕ) → k < x → x ≤ k + n → IsIn x (numbers_after k n)
numbers_in k zero x l g = absurd (omega (arith, l, g))
numbers_in k (suc n) x l g = elim (eqb_tells x (k + 1)) [
  | inl e ↦ omega (arith, ap (λ z. tick z (k + 1)) e.1, tick_same (k + 1))
  | inr e ↦ omega (arith, numbers_in (k + 1) n x (above x e.1 l) (omega (arith, g)))
] where
  above : (x : ℕ) → x ≢ k + 1 → k < x → k + 1 < x
  above x ne l = grind (arith, nat_tests)

-- where the first list has no repeats and the second is as long, each of the second is the name of one of the first
pub renamed_onto : (xs ys : List ℕ) → IsApart xs → length xs ≡ length ys → (y : ℕ) → IsIn y ys → (x : ℕ) × IsIn x xs × (renamed (both_lists xs ys) x ≡ y)
renamed_onto xs [] d l y i = absurd (omega arith)
renamed_onto [] (z ∷ zs) d l y i = absurd (omega arith)
renamed_onto (x ∷ xs) (z ∷ zs) d l y i = elim (eqb_tells y z) [
  | inl e ↦ (x, omega (arith, tick_same x), ap (λ b. cond b z (renamed (both_lists xs zs) x)) (nat_eq_itself x) ∙ sym e.1)
  | inr e ↦
      let r = renamed_onto xs zs (λ v. omega (arith, d v)) (omega (arith, l)) y (omega (arith, i, tick_other y z e.1)) in
      (r.0, omega (arith, r.1), ap (λ b. cond b z (renamed (both_lists xs zs) r.0)) (other r.0 r.1) ∙ r.2)
] where
  other : (v : ℕ) → IsIn v xs → nat_eq x v ≡ false
  other v j = grind (arith, tick_same)

-- ---- the edges round a cap, which get the numbers after those taken

pub other_number : (q n k : ℕ) → q ≤ n → n < k → q ≢ k
other_number q n k l m e = absurd (omega (arith, l, m, e))

-- ---- the edges round a cap

-- the row of each of the first i edges round a cap
abbrev pub rim_row : ℕ → ℕ → ℕ → EdgeRow
rim_row y m j = record { plus_tail = cond (nat_eq (suc j) m) (y + 1) (y + suc j + 1); minus_tail = y + suc j }

rim_rows : (t : Table EdgeRow) (k y m i : ℕ) → with_rim t k y m i ≡ with_rows t k (rim_row y m) i
rim_rows t k y m zero = refl
rim_rows t k y m (suc i) = ap (λ u. table.put u (k + suc i) (rim_row y m i)) (rim_rows t k y m i)

pub rim_at : (t : Table EdgeRow) (k y m i j : ℕ) → j < i → table.get (with_rim t k y m i) (k + suc j) ≡ Some (rim_row y m j)
rim_at t k y m i j l = ap (λ u. table.get u (k + suc j)) (rim_rows t k y m i) ∙ rows_at t k (rim_row y m) i j l

pub rim_below : (t : Table EdgeRow) (k y m i q : ℕ) → q ≤ k → table.get (with_rim t k y m i) q ≡ table.get t q
rim_below t k y m i q l = ap (λ u. table.get u q) (rim_rows t k y m i) ∙ rows_low t k (rim_row y m) i q l

pub rim_above : (t : Table EdgeRow) (k y m i q : ℕ) → k + i < q → table.get (with_rim t k y m i) q ≡ table.get t q
rim_above t k y m i q l = ap (λ u. table.get u q) (rim_rows t k y m i) ∙ rows_high t k (rim_row y m) i q l

-- an edge was there, or has one of the next i numbers, and both its ends are copies
pub rim_cases : (t : Table EdgeRow) (k y m i q : ℕ) (row : EdgeRow) → table.get (with_rim t k y m i) q ≡ Some row → (table.get t q ≡ Some row) ⊎ ((k < q) × (q ≤ k + i) × (y < row.plus_tail) × (y < row.minus_tail))
rim_cases t k y m zero q row at = inl at
rim_cases t k y m (suc i) q row at = elim (get-put_cases (with_rim t k y m i) (k + suc i) _ q row at) [
  | inl p ↦ grind arith
  | inr p ↦ elim (rim_cases t k y m i q row p.1) [ inl r ↦ inl r | inr r ↦ inr (r.0, omega (arith, r.1), r.2, r.3) ]
]
