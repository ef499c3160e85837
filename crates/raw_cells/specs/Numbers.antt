-- Numbers in use as bits of words, and the numbers next to one.
use Rattle.std.specs.Prelude.{◌≡◌, ℕ, ◌*◌, ◌/◌, ◌%◌, ◌<◌, ◌≤◌, ◌≢◌, Bool, true, false, nat_eq, nat_lt, List, length, slice_index_or, Option, Some, None}
use Rattle.std.specs.Int.{bit_at}

-- the least number in use from `from` on and below `end`, or none
abbrev pub IsFirstIn : (ℕ → Bool) → ℕ → ℕ → Option ℕ → Type 0
IsFirstIn used from end None = (k : ℕ) → from ≤ k → k < end → used k ≡ false
IsFirstIn used from end (Some m) = (from ≤ m) × (m < end) × (used m ≡ true) × ((k : ℕ) → from ≤ k → k < m → used k ≡ false)

-- the greatest number in use from `from` on and below `end`, or none
abbrev pub IsLastIn : (ℕ → Bool) → ℕ → ℕ → Option ℕ → Type 0
IsLastIn used from end None = (k : ℕ) → from ≤ k → k < end → used k ≡ false
IsLastIn used from end (Some m) = (from ≤ m) × (m < end) × (used m ≡ true) × ((k : ℕ) → m < k → k < end → used k ≡ false)

-- the least number in use above n, or none
abbrev pub IsNext : (ℕ → Bool) → ℕ → Option ℕ → Type 0
IsNext used n None = (k : ℕ) → n < k → used k ≡ false
IsNext used n (Some m) = (n < m) × (used m ≡ true) × ((k : ℕ) → n < k → k < m → used k ≡ false)

-- m is the greatest number in use, or 0 if no other number is in use
pub record IsLast (used : ℕ → Bool) (m : ℕ) : Type 0 where
  pub here : m ≢ 0 → used m ≡ true
  pub above : (k : ℕ) → m < k → used k ≡ false

-- whether bit k of a word is set
abbrev pub is_set : ℕ → ℕ → Bool
is_set word k = nat_eq (bit_at word k) 1

-- word i; it is 0 past the last word
abbrev pub word_at : List ℕ → ℕ → ℕ
word_at words i = slice_index_or words i 0

-- whether number n is in use: bit n % 64 of word n / 64 is set
unfoldable pub uses : List ℕ → ℕ → Bool
uses words n = is_set (word_at words (n / 64)) (n % 64)

-- whether a number of word i is in use
abbrev pub has_bits : List ℕ → ℕ → Bool
has_bits words i = nat_lt 0 (word_at words i)

-- the bits of a summary say which of 64 words have bits; words are added 32 at a time, for numbers up to 2,000,001
pub record AreSummed (words summaries : List ℕ) : Type 0 where
  pub right : (i : ℕ) → uses summaries i ≡ has_bits words i
  pub room : length words ≤ length summaries * 64
  pub limit : length words ≤ 31264
  pub summaries_limit : length summaries ≤ 489
