-- Tables with rows put at the numbers after a, one after the other, and with one row rewritten.
use Rattle.sweeps_laws.proofs.Prelude.{◌≡◌, ◌≢◌, ℕ, zero, suc, ◌+◌, ◌-◌, ◌≤◌, ◌<◌, Bool, false, cond, [], ◌∷◌, ◌++◌, Some, refl, ap, ◌∙◌, arith, ◌⊎◌, inl, inr, append-nil, eqb_tells, Table, at_most_or_above, get-put_here, get-put_other, all_where-put_last, greatest-put_last}
use Rattle.euler_operators.specs.Table as table

-- a number is at most a, one of the n after a, or above these
pub place_cases : (q a n : ℕ) → (q ≤ a) ⊎ (((i : ℕ) × (i < n) × (q ≡ a + 1 + i)) ⊎ (a + n < q))
place_cases q a n = elim (at_most_or_above q a) [
  | inl l ↦ inl l
  | inr m ↦ elim (at_most_or_above q (a + n)) [ inl l ↦ inr (inl (q - (a + 1), omega (arith, l, m), omega (arith, m))) | inr o ↦ inr (inr o) ]
]

module _ {X : Type 0} (t : Table X) (a : ℕ) (x : ℕ → X) where
  abbrev pub filled : ℕ → Table X
  filled zero = t
  filled (suc n) = table.put (filled n) (a + 1 + n) (x n)

  -- other numbers answer as they did
  pub filled_other : (n q : ℕ) → ((i : ℕ) → i < n → q ≢ a + 1 + i) → table.get (filled n) q ≡ table.get t q
  filled_other zero q o = refl
  filled_other (suc n) q o = get-put_other (filled n) (a + 1 + n) (x n) q (o n (omega arith)) ∙ filled_other n q (λ i l. o i (omega (arith, l)))

  pub filled_old : (n q : ℕ) → q ≤ a → table.get (filled n) q ≡ table.get t q
  filled_old n q l = filled_other n q (λ i m e. omega (arith, l, e))

  pub filled_new : (n i : ℕ) → i < n → table.get (filled n) (a + 1 + i) ≡ Some (x i)
  filled_new zero i l = absurd (omega arith)
  filled_new (suc n) i l = grind (arith, eqb_tells i n, get-put_here, get-put_other, filled_new n i)

  pub filled_past : (n q : ℕ) → a + n < q → table.get (filled n) q ≡ table.get t q
  filled_past n q l = filled_other n q (λ i m e. omega (arith, l, m, e))

  module _ (free : table.greatest t ≤ a) where
    pub filled_greatest : (n : ℕ) → table.greatest (filled n) ≤ a + n
    filled_greatest zero = grind arith
    filled_greatest (suc n) = grind (arith, greatest-put_last, filled_greatest n)

    -- a search lists the new numbers last, where they pass
    pub filled_search : (p : ℕ → X → Bool) (n : ℕ) → table.all_where p (filled (suc n)) ≡ table.all_where p (filled n) ++ cond (p (a + 1 + n) (x n)) ((a + 1 + n) ∷ []) []
    filled_search p n = all_where-put_last (filled n) (a + 1 + n) (x n) (omega (arith, filled_greatest n)) p

    -- and lists what it did before, where no new number passes
    pub filled_none : (p : ℕ → X → Bool) (n : ℕ) → ((i : ℕ) → p (a + 1 + i) (x i) ≡ false) → table.all_where p (filled n) ≡ table.all_where p t
    filled_none p zero none = refl
    filled_none p (suc n) none = filled_search p n ∙ ap (λ b. table.all_where p (filled n) ++ cond b ((a + 1 + n) ∷ []) []) (none n) ∙ append-nil (table.all_where p (filled n)) ∙ filled_none p n none

-- searches by tests that agree
pub same_search : {X : Type 0} (p q : ℕ → X → Bool) (t : Table X) → ((n : ℕ) (x : X) → p n x ≡ q n x) → table.all_where p t ≡ table.all_where q t
same_search p q t e = ap (λ r. table.all_where r t) (λ i n x. e n x i)
