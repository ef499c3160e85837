-- The words of a line.
use Rattle.std.specs.Prelude.{◌≡◌, ⊤, false, ℕ, Bool, ◌==◌, ◌||◌, List, [], ◌∷◌, take, drop, Option, option_map, if◌then◌else◌}
use Rattle.std.specs.List.{position_or_len, onto_first}

-- space, tab and carriage return
abbrev pub is_space : ℕ → Bool
is_space b = b == 32 || b == 9 || b == 13

-- a byte of a word belongs to the first word after it if no separator comes between; else it is a word of its own
abbrev pub joined : ℕ → List ℕ → List (List ℕ) → List (List ℕ)
joined b [] others = (b ∷ []) ∷ others
joined b (c ∷ line) others = if is_space c then (b ∷ []) ∷ others else onto_first b others

-- the longest runs of bytes without a separator
abbrev pub words : List ℕ → List (List ℕ)
words [] = []
words (b ∷ line) = if is_space b then words line else joined b line (words line)

-- no separator stands at the front
abbrev pub IsAtWord : List ℕ → Type 0
IsAtWord [] = ⊤
IsAtWord (b ∷ line) = is_space b ≡ false

-- how many bytes stand before the first separator
abbrev pub word_len : List ℕ → ℕ
word_len line = position_or_len is_space line

-- what the bytes up to the next separator say, and what follows them
abbrev pub first_by : {A : Type 0} → (List ℕ → Option A) → List ℕ → Option (A × List ℕ)
first_by read line = option_map (λ x. (x, drop (word_len line) line)) (read (take (word_len line) line))
