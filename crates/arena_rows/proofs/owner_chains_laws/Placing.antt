-- The place of a number, by the numbers near it.
use Rattle.arena_rows.proofs.Prelude.{◌≡◌, ◌≢◌, ℕ, ◌+◌, ◌≤◌, ◌<◌, Bool, true, false, refl, sym, ap, ◌∙◌, arith, true≢false, inl, inr, eqb_tells, IsBelow, IsClear}
use Rattle.arena_rows.proofs.owner_chains_laws.Order.{at_least}

module _ (item : ℕ → Bool) (n : ℕ) where
  pub clear_one : item n ≡ false → IsClear item n 1
  clear_one free k low high = let e : k ≡ n = omega arith in ap item e ∙ free

  -- an item can't stand where it is clear
  outside : (d k : ℕ) → IsClear item n d → item k ≡ true → n < k + d → k < n + d → ⊥
  outside d k clear there low high = true≢false (sym there ∙ clear k low high)

  pub high_below : (d p : ℕ) → 0 < d → IsClear item n d → IsBelow item (n + d) p → IsBelow item n p
  high_below d p some clear before = record {
    found = λ h. let b = before.found h in (omega (arith, at_least (p + 1) n (λ s. outside d p clear b.1 (omega (arith, s)) b.0)), b.1);
    greatest = λ k l h. before.greatest k (omega (arith, l)) h;
  }

  pub none_below : item 0 ≡ false → IsClear item n n → IsBelow item n 0
  none_below zero clear = record {
    found = λ h. absurd (h refl);
    greatest = λ k l h. at_least k 0 (λ s. outside n k clear h (omega (arith, s)) (omega (arith, l)));
  }

-- an item that isn't above a free number, or 0, is below it
pub place_less : (item : ℕ → Bool) (n m : ℕ) → m ≤ n → n ≢ 0 → item n ≡ false → (m ≢ 0 → item m ≡ true) → m < n
place_less item n m low some free there = elim (eqb_tells m n) [
  | inl e ↦ absurd (true≢false (sym (there (λ z. some (sym e.1 ∙ z))) ∙ ap item e.1 ∙ free))
  | inr e ↦ let apart = e.1 in omega arith
]
