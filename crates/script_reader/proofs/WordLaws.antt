-- The first word of a line.
use Rattle.script_reader.proofs.Prelude.{◌≡◌, inl, inr, ℕ, ◌+◌, ◌<◌, false, List, [], ◌∷◌, length, take, drop, refl, arith, one-add, cases_Bool, onto_first, is_space, joined, words, word_len, IsAtWord}

longer : (b c : ℕ) (line : List ℕ) (ws : List (List ℕ)) (n : ℕ) → ws ≡ take n (c ∷ line) ∷ words (drop n (c ∷ line)) → onto_first b ws ≡ take (1 + n) (b ∷ c ∷ line) ∷ words (drop (1 + n) (b ∷ c ∷ line))
longer b c line ws n e = rw (e, one-add) refl

pub first_of_words : (b : ℕ) (line : List ℕ) → is_space b ≡ false → words (b ∷ line) ≡ take (word_len (b ∷ line)) (b ∷ line) ∷ words (drop (word_len (b ∷ line)) (b ∷ line))
first_of_words b [] here = rw here refl
first_of_words b (c ∷ line) here =
    elim (cases_Bool (is_space c)) [
      | inl gap ↦ simp (here, gap)
      | inr more ↦ rw (here, more) (longer b c line (joined c line (words line)) (1 + word_len line) (rw more at (first_of_words c line more)))
    ]

pub first_word : (xs : List ℕ) → 0 < length xs → IsAtWord xs → words xs ≡ take (word_len xs) xs ∷ words (drop (word_len xs) xs)
first_word [] some here = absurd (omega arith)
first_word (b ∷ line) some here = first_of_words b line here
