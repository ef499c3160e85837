-- The bits of a word: the lowest and the greatest, those of a word that is shifted, and one that is set or cleared.
use Rattle.raw_cells.proofs.Prelude.{◌≡◌, ℕ, suc, ◌+◌, ◌-◌, ◌*◌, ◌/◌, ◌%◌, ◌^◌, ◌≤◌, ◌<◌, true, false, cond, nat_eq, bit_and, bit_or, bit_xor, refl, true-eqb, sym, ap, ◌∙◌, arith, eq-eqb, ne_eqb, inl, inr, pow-add, w64, cases_eq, agree_below_at, bit_at-zero, bit_at_above, bit_at-trailing_zeros, bit_at_set_same, bit_at_set_other, bit_at_clear_same, bit_at_clear_other, bit_at, bit_not, trailing_zeros, leading_zeros, is_set}
use Rattle.std.proofs.Math.Nat.{div-div-eq-div-mul, div-eq_of_lt-le, pow-suc}
use Rattle.std.proofs.lemmas.Nat.{leading_top}

pub set_bit : (word k : ℕ) → bit_at word k ≡ 1 → is_set word k ≡ true
set_bit word k e = eq-eqb (bit_at word k) 1 e

pub clear_bit : (word k : ℕ) → bit_at word k ≡ 0 → is_set word k ≡ false
clear_bit word k e = ap (λ b. nat_eq b 1) e

pub no_bit : (k : ℕ) → is_set 0 k ≡ false
no_bit k = clear_bit 0 k (bit_at-zero k)

-- a word of 64 bits has none from 64 on
pub no_high : (word k : ℕ) → word < 2 ^ 64 → 64 ≤ k → is_set word k ≡ false
no_high word k fits high = clear_bit word k (bit_at_above word 64 k fits high)

pub same_bits : (a b k : ℕ) → bit_at a k ≡ bit_at b k → is_set a k ≡ is_set b k
same_bits a b k e = ap (λ t. nat_eq t 1) e

-- a word that is shifted by k and once more
pub shifted : (word k i : ℕ) → is_set (word / 2 ^ k / 2) i ≡ is_set word (k + 1 + i)
shifted word k i = ap (λ a. nat_eq (a % 2) 1) (
    div-div-eq-div-mul (word / 2 ^ k) 2 (2 ^ i) ∙ div-div-eq-div-mul word (2 ^ k) (2 * 2 ^ i) ∙ ap (λ p. word / p) (product)) where
      product : 2 ^ k * (2 * 2 ^ i) ≡ 2 ^ (k + 1 + i)
      product = sym (pow-add 2 (k + 1) i ∙ ap (λ p. p * 2 ^ i) (pow-add 2 k 1) ∙ omega arith)

-- the bits of 63 turned at those of a number below 64
turned : (n : ℕ) → n < 64 → bit_xor 63 n ≡ 63 - n
turned n h = true-eqb (bit_xor 63 n) (63 - n) (sym (agree_below_at (λ m. nat_eq (bit_xor 63 m) (63 - m)) (λ m. true) 64 n refl h))

module _ (word : ℕ) (some : 0 < word) (fits : word < 2 ^ 64) where
  pub lowest_set : is_set word (trailing_zeros w64 word) ≡ true
  lowest_set = set_bit word _ (bit_at-trailing_zeros w64 word some fits).1

  pub lowest_none : (k : ℕ) → k < trailing_zeros w64 word → is_set word k ≡ false
  lowest_none k h = clear_bit word k ((bit_at-trailing_zeros w64 word some fits).2 k h)

  pub highest_turned : bit_xor 63 (leading_zeros w64 word) ≡ 63 - leading_zeros w64 word
  highest_turned = let top = leading_top 64 word some fits in turned (leading_zeros w64 word) (omega (arith, top.1))

  pub highest_set : is_set word (63 - leading_zeros w64 word) ≡ true
  highest_set =
      let top = leading_top 64 word some fits in
      let place : 63 - leading_zeros w64 word ≡ top.0 = omega (arith, top.1) in
      let one : word / 2 ^ top.0 ≡ 1 = div-eq_of_lt-le (2 ^ top.0) (omega (arith, top.2)) (omega (arith, top.3, pow-suc 2 top.0)) in
      set_bit word _ (ap (bit_at word) place ∙ ap (λ q. q % 2) one)

  pub highest_none : (k : ℕ) → 63 - leading_zeros w64 word < k → is_set word k ≡ false
  highest_none k h =
      let top = leading_top 64 word some fits in
      clear_bit word k (bit_at_above word (suc top.0) k top.3 (omega (arith, top.1, h)))

-- bit k of a word is set, or cleared
module _ (word k : ℕ) (within : k < 64) where
  pub set_at : (i : ℕ) → is_set (bit_or word (1 * 2 ^ k % 2 ^ 64)) i ≡ cond (nat_eq i k) true (is_set word i)
  set_at i = elim (cases_eq i k) [
    | inl e ↦ ap (is_set (bit_or word (1 * 2 ^ k % 2 ^ 64))) e ∙ set_bit _ k (bit_at_set_same w64 word k within) ∙ sym (ap (λ t. cond t true (is_set word i)) (eq-eqb i k e))
    | inr ne ↦ same_bits _ word i (bit_at_set_other w64 word k within i ne) ∙ sym (ap (λ t. cond t true (is_set word i)) (ne_eqb i k ne))
  ]

  pub clear_at : (i : ℕ) → i < 64 → is_set (bit_and word (bit_not w64 (1 * 2 ^ k % 2 ^ 64))) i ≡ cond (nat_eq i k) false (is_set word i)
  clear_at i low = elim (cases_eq i k) [
    | inl e ↦ ap (is_set (bit_and word (bit_not w64 (1 * 2 ^ k % 2 ^ 64)))) e ∙ clear_bit _ k (bit_at_clear_same w64 word k within) ∙ sym (ap (λ t. cond t false (is_set word i)) (eq-eqb i k e))
    | inr ne ↦ same_bits _ word i (bit_at_clear_other w64 word k within i low ne) ∙ sym (ap (λ t. cond t false (is_set word i)) (ne_eqb i k ne))
  ]
