-- The next number in use and the greatest one by two levels, of which the higher says which 64 numbers have one in use.
use Rattle.raw_cells.proofs.Prelude.{◌≡◌, ◌≢◌, ℕ, ◌+◌, ◌*◌, ◌/◌, ◌<◌, Bool, false, Option, Some, None, refl, sym, subst, arith, inl, inr, cases_lt, IsFirstIn, IsLastIn, IsNext}

module _ (low high : ℕ → Bool) (none_in : (g k : ℕ) → high g ≡ false → k / 64 ≡ g → low k ≡ false) where
  module _ (n : ℕ) where
    next_none : IsFirstIn low (n + 1) ((n / 64 + 1) * 64) None → IsNext high (n / 64) None → IsNext low n None
    next_none here none k above = elim (cases_lt (n / 64) (k / 64)) [
      | inl more ↦ none_in (k / 64) k (none (k / 64) more) refl
      | inr less ↦ here k (omega (arith, above)) (omega (arith, less))
    ]

    next_found : IsFirstIn low (n + 1) ((n / 64 + 1) * 64) None → (g : ℕ) → IsNext high (n / 64) (Some g) → (m : ℕ) → IsFirstIn low (g * 64) ((g + 1) * 64) (Some m) → IsNext low n (Some m)
    next_found here g next m first = (
      omega (arith, next.0, first.0),
      first.2,
      λ k a b. elim (cases_lt (n / 64) (k / 64)) [
        | inl more ↦ elim (cases_lt (k / 64) g) [
          | inl less ↦ none_in (k / 64) k (next.2 (k / 64) more less) refl
          | inr there ↦ first.3 k (omega (arith, there)) b
        ]
        | inr less ↦ here k (omega (arith, a)) (omega (arith, less))
      ],
    )

    -- the same by what the calls answer: none in the word of n, and then none or some word beyond
    pub next_end : (here : Option ℕ) → ((m : ℕ) → here ≢ Some m) → IsFirstIn low (n + 1) ((n / 64 + 1) * 64) here → (word r : Option ℕ) → word ≡ None → IsNext high (n / 64) word → r ≡ None → IsNext low n r
    next_end (Some m) not first word r none next is = absurd (not m refl)
    next_end None not first word r none next is =
        subst (λ o. IsNext low n o) (sym is) (next_none first (subst (λ o. IsNext high (n / 64) o) none next))

    pub next_on : (here : Option ℕ) → ((m : ℕ) → here ≢ Some m) → IsFirstIn low (n + 1) ((n / 64 + 1) * 64) here → (word : Option ℕ) (g : ℕ) → word ≡ Some g → IsNext high (n / 64) word →
        (m : ℕ) → IsFirstIn low (g * 64) ((g + 1) * 64) (Some m) → IsNext low n (Some m)
    next_on (Some m) not first word g is next found last = absurd (not m refl)
    next_on None not first word g is next found last = next_found first g (subst (λ o. IsNext high (n / 64) o) is next) found last

  -- none is in use above the last one of the last word that has one
  pub none_above : (g : ℕ) → ((j : ℕ) → g < j → high j ≡ false) → (m : ℕ) → IsLastIn low (g * 64) ((g + 1) * 64) (Some m) → (k : ℕ) → m < k → low k ≡ false
  none_above g above m last k more = elim (cases_lt g (k / 64)) [
    | inl past ↦ none_in (k / 64) k (above (k / 64) past) refl
    | inr there ↦ last.3 k more (omega (arith, there))
  ]

  pub none_at_all : ((j : ℕ) → high j ≡ false) → (k : ℕ) → low k ≡ false
  none_at_all none k = none_in (k / 64) k (none (k / 64)) refl
