-- How many items of a list pass a test, and lists that have equally many items.
use Rattle.solid_measure.proofs.Prelude.{◌≡◌, ℕ, ◌+◌, ◌≤◌, Bool, true, false, cond, List, [], ◌∷◌, ◌++◌, length, map, refl, sym, ap, subst, ◌∙◌, arith, inl, inr, eqb_tells, count, tick, IsIn, IsApart, tick_same, tick_other, apart_within}

-- how many items pass a test, and which
abbrev pub how_many : (ℕ → Bool) → List ℕ → ℕ
how_many p [] = 0
how_many p (x ∷ xs) = cond (p x) 1 0 + how_many p xs

abbrev pub passing : (ℕ → Bool) → List ℕ → List ℕ
passing p [] = []
passing p (x ∷ xs) = cond (p x) (x ∷ passing p xs) (passing p xs)

module _ (p : ℕ → Bool) where
  pub how_many-append : (xs ys : List ℕ) → how_many p (xs ++ ys) ≡ how_many p xs + how_many p ys
  how_many-append [] ys = omega arith
  how_many-append (x ∷ xs) ys = omega (arith, how_many-append xs ys)

  pub how_many_short : (xs : List ℕ) → how_many p xs ≤ length xs
  how_many_short [] = omega arith
  how_many_short (x ∷ xs) = elim (p x) as (λ b. cond b 1 0 + how_many p xs ≤ length (x ∷ xs)) [ true ↦ omega (arith, how_many_short xs) | false ↦ omega (arith, how_many_short xs) ]

  pub passing_are : (xs : List ℕ) → length (passing p xs) ≡ how_many p xs
  passing_are [] = refl
  passing_are (x ∷ xs) = elim (p x) as (λ b. length (cond b (x ∷ passing p xs) (passing p xs)) ≡ cond b 1 0 + how_many p xs) [ true ↦ omega (arith, passing_are xs) | false ↦ omega (arith, passing_are xs) ]

  count_passing : (x : ℕ) (xs : List ℕ) → count x (passing p xs) ≤ count x xs
  count_passing x [] = omega arith
  count_passing x (y ∷ ys) = elim (p y) as (λ b. count x (cond b (y ∷ passing p ys) (passing p ys)) ≤ count x (y ∷ ys)) [ true ↦ omega (arith, count_passing x ys) | false ↦ omega (arith, count_passing x ys) ]

  pub passing_apart : (xs : List ℕ) → IsApart xs → IsApart (passing p xs)
  passing_apart xs d x = omega (arith, d x, count_passing x xs)

  pub of_passing : (x : ℕ) (xs : List ℕ) → IsIn x (passing p xs) → IsIn x xs × (p x ≡ true)
  of_passing x [] i = absurd (omega arith)
  of_passing x (y ∷ ys) i = elim (p y) as (λ b. p y ≡ b → IsIn x (cond b (y ∷ passing p ys) (passing p ys)) → IsIn x (y ∷ ys) × (p x ≡ true)) [
    | true ↦ λ e j. elim (eqb_tells x y) [
      | inl s ↦ (omega (arith, ap (λ k. tick k y) s.1, tick_same y), ap p s.1 ∙ e)
      | inr n ↦ let r = of_passing x ys (omega (arith, j, tick_other x y n.1)) in (omega (arith, r.0), r.1)
    ]
    | false ↦ λ e j. let r = of_passing x ys j in (omega (arith, r.0), r.1)
  ] refl i

  pub in_passing : (x : ℕ) (xs : List ℕ) → IsIn x xs → p x ≡ true → IsIn x (passing p xs)
  in_passing x [] i e = absurd (omega arith)
  in_passing x (y ∷ ys) i e = elim (eqb_tells x y) [
    | inl s ↦ let t : p y ≡ true = sym (ap p s.1) ∙ e in subst (λ b. IsIn x (cond b (y ∷ passing p ys) (passing p ys))) (sym t) (omega (arith, ap (λ k. tick k y) s.1, tick_same y))
    | inr n ↦
        let r = in_passing x ys (omega (arith, i, tick_other x y n.1)) e in
        elim (p y) as (λ b. IsIn x (cond b (y ∷ passing p ys) (passing p ys))) [ true ↦ omega (arith, r) | false ↦ r ]
  ]

-- ---- images

module _ (f : ℕ → ℕ) where
  pub of_map : (y : ℕ) (xs : List ℕ) → IsIn y (map f xs) → (x : ℕ) × IsIn x xs × (f x ≡ y)
  of_map y [] i = absurd (omega arith)
  of_map y (x ∷ xs) i = elim (eqb_tells y (f x)) [
    | inl s ↦ (x, omega (arith, tick_same x), sym s.1)
    | inr n ↦ let r = of_map y xs (omega (arith, i, tick_other y (f x) n.1)) in (r.0, omega (arith, r.1), r.2)
  ]

-- ---- lists of the same items

pub equally_many : (xs ys : List ℕ) → IsApart xs → IsApart ys → ((x : ℕ) → IsIn x xs → IsIn x ys) → ((x : ℕ) → IsIn x ys → IsIn x xs) → length xs ≡ length ys
equally_many xs ys d e h k = omega (arith, apart_within xs ys d h, apart_within ys xs e k)
