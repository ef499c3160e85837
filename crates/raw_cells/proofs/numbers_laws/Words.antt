-- Numbers in use as bits of words.
use Rattle.raw_cells.proofs.Prelude.{◌≡◌, ℕ, ◌+◌, ◌-◌, ◌*◌, ◌/◌, ◌%◌, ◌^◌, ◌≤◌, ◌<◌, Bool, true, false, cond, nat_eq, nat_lt, List, length, slice_set, slice_index_or, Some, None, bit_and, bit_or, refl, sym, ap, ◌∙◌, arith, eq-eqb, ne_eqb, true≢false, inl, inr, get_or-set_same, get_or-set_other, w64, cases_eq, cases_lt, get_or-eq_default, nat_tests, get_or_default_zero, bit_not, IsFirstIn, IsLastIn, is_set, word_at, uses}
use Rattle.raw_cells.proofs.numbers_laws.Bits.{no_bit, no_high, shifted, set_at, clear_at}

-- ---- by word

pub uses_by : (words : List ℕ) (i k : ℕ) → k < 64 → uses words (i * 64 + k) ≡ is_set (word_at words i) k
unfolding uses
uses_by words i k h = let a : (i * 64 + k) / 64 ≡ i = omega arith in let b : (i * 64 + k) % 64 ≡ k = omega arith in λ t. is_set (word_at words (a t)) (b t)

pub uses_is : (words : List ℕ) (n : ℕ) → uses words n ≡ is_set (word_at words (n / 64)) (n % 64)
unfolding uses
uses_is words n = refl

-- words that are read alike
pub uses_same : (words new : List ℕ) → ((i : ℕ) → word_at new i ≡ word_at words i) → (n : ℕ) → uses new n ≡ uses words n
unfolding uses
uses_same words new same n = ap (λ w. is_set w (n % 64)) (same (n / 64))

-- a word with no bit has no number in use
pub uses_none : (words : List ℕ) (n : ℕ) → word_at words (n / 64) ≡ 0 → uses words n ≡ false
unfolding uses
uses_none words n e = ap (λ w. is_set w (n % 64)) e ∙ no_bit (n % 64)

pub uses_past : (words : List ℕ) (n : ℕ) → length words ≤ n / 64 → uses words n ≡ false
uses_past words n past = uses_none words n (get_or-eq_default words 0 past)

pub no_bits : (word : ℕ) → nat_lt 0 word ≡ false → word ≡ 0
no_bits word h = let l : word ≤ 0 = grind (arith, nat_tests) in omega arith

-- ---- word n / 64 is written

module _ (words : List ℕ) (n : ℕ) (below : n / 64 < length words) where
  written : (b : Bool) (word : ℕ) → ((k : ℕ) → k < 64 → is_set word k ≡ cond (nat_eq k (n % 64)) b (is_set (word_at words (n / 64)) k)) → (q : ℕ) → uses (slice_set words (n / 64) word) q ≡ cond (nat_eq q n) b (uses words q)
  unfolding uses
  written b word bits q = elim (cases_eq (q / 64) (n / 64)) [
    | inl e ↦
        let here : word_at (slice_set words (n / 64) word) (q / 64) ≡ word = ap (word_at (slice_set words (n / 64) word)) e ∙ get_or-set_same words (n / 64) word 0 below in
        ap (λ w. is_set w (q % 64)) here ∙ bits (q % 64) (omega arith)
        ∙ ap (λ t. cond t b (is_set (word_at words (n / 64)) (q % 64))) (same e) ∙ ap (λ k. cond (nat_eq q n) b (is_set (word_at words k) (q % 64))) (sym e)
    | inr ne ↦
        ap (λ w. is_set w (q % 64)) (get_or-set_other words (n / 64) (q / 64) word 0 ne)
        ∙ sym (ap (λ t. cond t b (is_set (word_at words (q / 64)) (q % 64))) (ne_eqb q n (λ e. ne (ap (λ k. k / 64) e))))
  ] where
    same : q / 64 ≡ n / 64 → nat_eq (q % 64) (n % 64) ≡ nat_eq q n
    same e = elim (cases_eq q n) [
      | inl eq ↦ eq-eqb (q % 64) (n % 64) (ap (λ k. k % 64) eq) ∙ sym (eq-eqb q n eq)
      | inr ne ↦ ne_eqb (q % 64) (n % 64) (λ r. ne (omega (arith, r, e))) ∙ sym (ne_eqb q n ne)
    ]

  -- its bit is set, or cleared, in what was read there
  module _ (read : ℕ) (is : read ≡ slice_index_or words (n / 64) read) where
    read_is : read ≡ word_at words (n / 64)
    read_is = is ∙ get_or_default_zero words (n / 64) read below

    bits_are : (b : Bool) (k : ℕ) → cond (nat_eq k (n % 64)) b (is_set read k) ≡ cond (nat_eq k (n % 64)) b (is_set (word_at words (n / 64)) k)
    bits_are b k = ap (λ w. cond (nat_eq k (n % 64)) b (is_set w k)) read_is

  pub uses_set : (read : ℕ) → read ≡ slice_index_or words (n / 64) read → (q : ℕ) → uses (slice_set words (n / 64) (bit_or read (1 * 2 ^ (n % 64) % 2 ^ 64))) q ≡ cond (nat_eq q n) true (uses words q)
  uses_set read is = written true (bit_or read (1 * 2 ^ (n % 64) % 2 ^ 64)) (λ k low. set_at read (n % 64) (omega arith) k ∙ bits_are read is true k)

  pub uses_cleared : (read : ℕ) → read ≡ slice_index_or words (n / 64) read → (q : ℕ) → uses (slice_set words (n / 64) (bit_and read (bit_not w64 (1 * 2 ^ (n % 64) % 2 ^ 64)))) q ≡ cond (nat_eq q n) false (uses words q)
  uses_cleared read is = written false (bit_and read (bit_not w64 (1 * 2 ^ (n % 64) % 2 ^ 64))) (λ k low. clear_at read (n % 64) (omega arith) k low ∙ bits_are read is false k)

-- ---- the first and the last number of a word, and the next one in it

module _ (words : List ℕ) (i r : ℕ) (within : r < 64) (there : is_set (word_at words i) r ≡ true) where
  pub first_is : ((k : ℕ) → k < r → is_set (word_at words i) k ≡ false) → IsFirstIn (uses words) (i * 64) ((i + 1) * 64) (Some (i * 64 + r))
  first_is none = (
    omega arith,
    omega (arith, within),
    uses_by words i r within ∙ there,
    λ k a b. let e : i * 64 + (k - i * 64) ≡ k = omega (arith, a) in ap (uses words) (sym e) ∙ uses_by words i (k - i * 64) (omega (arith, within, b)) ∙ none (k - i * 64) (omega (arith, a, b)),
  )

  pub last_is : ((k : ℕ) → r < k → is_set (word_at words i) k ≡ false) → IsLastIn (uses words) (i * 64) ((i + 1) * 64) (Some (i * 64 + r))
  last_is none = (
    omega arith,
    omega (arith, within),
    uses_by words i r within ∙ there,
    λ k a b. let e : i * 64 + (k - i * 64) ≡ k = omega (arith, a) in ap (uses words) (sym e) ∙ uses_by words i (k - i * 64) (omega (arith, a, b)) ∙ none (k - i * 64) (omega (arith, a, b)),
  )

-- a number above n in its word is a bit of the word that is shifted past n
module _ (words : List ℕ) (n : ℕ) where
  abbrev pub above : ℕ
  above = word_at words (n / 64) / 2 ^ (n % 64) / 2

  uses_above : (k : ℕ) → n + 1 ≤ k → k < (n / 64 + 1) * 64 → uses words k ≡ is_set above (k - (n + 1))
  unfolding uses
  uses_above k a b =
      let word : k / 64 ≡ n / 64 = omega (arith, a, b) in
      let bit : k % 64 ≡ n % 64 + 1 + (k - (n + 1)) = omega (arith, a, b) in
      (λ i. is_set (word_at words (word i)) (bit i)) ∙ sym (shifted (word_at words (n / 64)) (n % 64) (k - (n + 1)))

  pub next_none : above ≡ 0 → IsFirstIn (uses words) (n + 1) ((n / 64 + 1) * 64) None
  next_none e k a b = uses_above k a b ∙ ap (λ w. is_set w (k - (n + 1))) e ∙ no_bit (k - (n + 1))

  pub next_found : word_at words (n / 64) < 2 ^ 64 → (r : ℕ) → is_set above r ≡ true → ((k : ℕ) → k < r → is_set above k ≡ false) → IsFirstIn (uses words) (n + 1) ((n / 64 + 1) * 64) (Some (n + 1 + r))
  next_found fits r there none = (
    omega arith,
    ends,
    uses_above (n + 1 + r) (omega arith) ends ∙ ap (is_set above) back ∙ there,
    λ k a b. uses_above k a (omega (arith, ends, b)) ∙ none (k - (n + 1)) (omega (arith, a, b)),
  ) where
    ends : n + 1 + r < (n / 64 + 1) * 64
    ends = elim (cases_lt (n % 64 + 1 + r) 64) [
      | inl less ↦ omega (arith, less)
      | inr more ↦ absurd (true≢false (sym there ∙ shifted (word_at words (n / 64)) (n % 64) r ∙ no_high (word_at words (n / 64)) (n % 64 + 1 + r) fits more))
    ]

    back : n + 1 + r - (n + 1) ≡ r
    back = omega arith
