-- The summaries of words: with none, with more room, where a bit is set or cleared, and where a number is looked for.
use Rattle.raw_cells.proofs.Prelude.{◌≡◌, ◌≢◌, ℕ, ◌+◌, ◌*◌, ◌/◌, ◌^◌, ◌≤◌, ◌<◌, Bool, true, false, cond, nat_eq, nat_lt, List, [], length, Option, Some, None, refl, sym, ap, subst, ◌∙◌, arith, eq-eqb, ne_eqb, true≢false, inl, inr, w64, cases_eq, cases_lt, nat_tests, bit_at-trailing_zeros, get_or-eq_default, trailing_zeros, IsLast, IsFirstIn, IsLastIn, IsNext, AreSummed, word_at, uses, has_bits}
use Rattle.raw_cells.proofs.numbers_laws.Lasts.{last_none}
use Rattle.raw_cells.proofs.numbers_laws.Bits.{lowest_set}
use Rattle.raw_cells.proofs.numbers_laws.Words.{uses_by, uses_none, uses_same, no_bits}
use Rattle.raw_cells.proofs.numbers_laws.Levels.{none_above, none_at_all}

-- ---- words and their bits

pub none_in_word : (words : List ℕ) (i k : ℕ) → has_bits words i ≡ false → k / 64 ≡ i → uses words k ≡ false
none_in_word words i k none at = uses_none words k (no_bits (word_at words (k / 64)) (ap (has_bits words) at ∙ none))

pub word_of : (words : List ℕ) (n : ℕ) → uses words n ≡ true → has_bits words (n / 64) ≡ true
word_of words n h = has_some (has_bits words (n / 64)) refl where
  has_some : (b : Bool) → has_bits words (n / 64) ≡ b → b ≡ true
  has_some true e = refl
  has_some false e = absurd (true≢false (sym h ∙ none_in_word words (n / 64) n e refl))

-- a word that has bits has a number in use
number_of : (words : List ℕ) (i : ℕ) → word_at words i < 2 ^ 64 → 0 < word_at words i → (k : ℕ) × (k / 64 ≡ i) × (uses words k ≡ true)
number_of words i fits some =
    let r = trailing_zeros w64 (word_at words i) in
    let within : r < 64 = (bit_at-trailing_zeros w64 (word_at words i) some fits).0 in
    (i * 64 + r, (omega (arith, within)), uses_by words i r within ∙ lowest_set (word_at words i) some fits)

bits_past : (words : List ℕ) (i : ℕ) → length words ≤ i → has_bits words i ≡ false
bits_past words i past = ap (nat_lt 0) (get_or-eq_default words 0 past)

-- the first word above i that has bits, and the last one
pub next_of_all : (words : List ℕ) (i : ℕ) (found : Option ℕ) → IsFirstIn (has_bits words) (i + 1) (length words) found → IsNext (has_bits words) i found
next_of_all words i None none = λ k above. elim (cases_lt k (length words)) [
  | inl less ↦ none k (omega (arith, above)) less
  | inr past ↦ bits_past words k past
]
next_of_all words i (Some m) first = (omega (arith, first.0), first.2, λ k a b. first.3 k (omega (arith, a)) b)

last_of_all : (words : List ℕ) (i : ℕ) → IsLastIn (has_bits words) 0 (length words) (Some i) → (k : ℕ) → i < k → has_bits words k ≡ false
last_of_all words i last k above = elim (cases_lt k (length words)) [
  | inl less ↦ last.3 k above less
  | inr past ↦ bits_past words k past
]

none_of_all : (words : List ℕ) → IsLastIn (has_bits words) 0 (length words) None → (k : ℕ) → has_bits words k ≡ false
none_of_all words none k = elim (cases_lt k (length words)) [
  | inl less ↦ none k (omega arith) less
  | inr past ↦ bits_past words k past
]

pub none-summed : (words summaries : List ℕ) → words ≡ [] → summaries ≡ [] → AreSummed words summaries
none-summed words summaries a b = subst (λ ws. AreSummed ws summaries) (sym a) (subst (λ ss. AreSummed [] ss) (sym b) (record {
  right = λ i. uses_none [] i refl;
  room = omega arith;
  limit = omega arith;
  summaries_limit = omega arith;
}))

module _ (words summaries : List ℕ) (S : AreSummed words summaries) where
  -- more room for summaries, and for words
  pub more_summaries : (after : List ℕ) → ((i : ℕ) → word_at after i ≡ word_at summaries i) → length summaries ≤ length after → length after ≤ 489 → AreSummed words after
  more_summaries after same more most = record { right = λ i. uses_same summaries after same i ∙ S.right i; room = omega (arith, S.room, more); limit = S.limit; summaries_limit = most }

  pub more_words : (new : List ℕ) → ((i : ℕ) → word_at new i ≡ word_at words i) → length new ≤ length summaries * 64 → length new ≤ 31264 → AreSummed new summaries
  more_words new same room most = record { right = λ i. S.right i ∙ sym (ap (nat_lt 0) (same i)); room = room; limit = most; summaries_limit = S.summaries_limit }

  -- ---- number n comes into use or goes out of it

  module _ (new : List ℕ) (n : ℕ) (others : (i : ℕ) → i ≢ n / 64 → word_at new i ≡ word_at words i) (len : length new ≡ length words) where
    -- its word has bits as before
    summed-kept : has_bits new (n / 64) ≡ has_bits words (n / 64) → AreSummed new summaries
    summed-kept same = record {
      right = λ i. elim (cases_eq i (n / 64)) [
        | inl e ↦ S.right i ∙ ap (has_bits words) e ∙ sym (ap (has_bits new) e ∙ same)
        | inr ne ↦ S.right i ∙ sym (ap (nat_lt 0) (others i ne))
      ];
      room = omega (arith, S.room, len);
      limit = omega (arith, S.limit, len);
      summaries_limit = S.summaries_limit;
    }

    -- the bit of its word is written
    summed-turned : (after : List ℕ) (b : Bool) → has_bits new (n / 64) ≡ b → ((q : ℕ) → uses after q ≡ cond (nat_eq q (n / 64)) b (uses summaries q)) → length after ≡ length summaries → AreSummed new after
    summed-turned after b is bits lens = record {
      right = λ i. elim (cases_eq i (n / 64)) [
        | inl e ↦ bits i ∙ ap (λ t. cond t b (uses summaries i)) (eq-eqb i (n / 64) e) ∙ sym (ap (has_bits new) e ∙ is)
        | inr ne ↦ bits i ∙ ap (λ t. cond t b (uses summaries i)) (ne_eqb i (n / 64) ne) ∙ S.right i ∙ sym (ap (nat_lt 0) (others i ne))
      ];
      room = omega (arith, S.room, len, lens);
      limit = omega (arith, S.limit, len);
      summaries_limit = omega (arith, S.summaries_limit, lens);
    }

    module _ (comes : (q : ℕ) → uses new q ≡ cond (nat_eq q n) true (uses words q)) where
      comes_there : has_bits new (n / 64) ≡ true
      comes_there = word_of new n (comes n ∙ ap (λ t. cond t true (uses words n)) (eq-eqb n n refl))

      pub put-kept : 0 < word_at words (n / 64) → AreSummed new summaries
      put-kept some = let there : has_bits words (n / 64) ≡ true = grind (arith, nat_tests) in summed-kept (comes_there ∙ sym there)

      pub put-turned : (after : List ℕ) → ((q : ℕ) → uses after q ≡ cond (nat_eq q (n / 64)) true (uses summaries q)) → length after ≡ length summaries → AreSummed new after
      put-turned after = summed-turned after true comes_there

    module _ (goes : (q : ℕ) → uses new q ≡ cond (nat_eq q n) false (uses words q)) where
      was_there : (q : ℕ) → uses new q ≡ true → uses words q ≡ true
      was_there q h = not_taken (nat_eq q n) (sym (goes q) ∙ h) where
        not_taken : (b : Bool) → cond b false (uses words q) ≡ true → uses words q ≡ true
        not_taken true e = absurd (true≢false (sym e))
        not_taken false e = e

      pub take-kept : word_at new (n / 64) < 2 ^ 64 → 0 < word_at new (n / 64) → AreSummed new summaries
      take-kept fits some =
          let k = number_of new (n / 64) fits some in
          let is : has_bits new (n / 64) ≡ true = grind (arith, nat_tests) in
          summed-kept (is ∙ sym (ap (has_bits words) (sym k.1) ∙ word_of words k.0 (was_there k.0 k.2)))

      pub take-turned : word_at new (n / 64) ≡ 0 → (after : List ℕ) → ((q : ℕ) → uses after q ≡ cond (nat_eq q (n / 64)) false (uses summaries q)) → length after ≡ length summaries → AreSummed new after
      take-turned none after = summed-turned after false (ap (nat_lt 0) none)

  -- ---- the greatest number in use

  pub has_summary : (i k : ℕ) → uses summaries i ≡ false → k / 64 ≡ i → uses words k ≡ false
  has_summary i k none at = none_in_word words i k (sym (S.right i) ∙ none) at

  pub last_found : (s i m : ℕ) → IsLastIn (has_bits summaries) 0 (length summaries) (Some s) → IsLastIn (uses summaries) (s * 64) ((s + 1) * 64) (Some i) → IsLastIn (uses words) (i * 64) ((i + 1) * 64) (Some m) → IsLast (uses words) m
  last_found s i m block word number = record {
    here = λ z. number.2;
    above = none_above (uses words) (uses summaries) has_summary i
        (none_above (uses summaries) (has_bits summaries) (none_in_word summaries) s (last_of_all summaries s block) i word) m number;
  }

  pub last_nowhere : IsLastIn (has_bits summaries) 0 (length summaries) None → IsLast (uses words) 0
  last_nowhere none = last_none (uses words) (none_at_all (uses words) (uses summaries) has_summary
      (none_at_all (uses summaries) (has_bits summaries) (none_in_word summaries) (none_of_all summaries none)))
