-- Newlines.
use Rattle.std.specs.Prelude.{◌≡◌, ◌≢◌, ◌≤◌, ◌<◌, ◌==◌, ◌||◌, ℕ, Bool, false, List, [], ◌∷◌, slice_range, slice_index}
use Rattle.std.specs.List.{AllByRecursion}

-- no byte of the list is a newline
abbrev pub Lacks : List ℕ → Type 0
Lacks xs = AllByRecursion (λ b. b ≢ 10) xs

abbrev pub has_newline : List ℕ → Bool
has_newline [] = false
has_newline (b ∷ bs) = b == 10 || has_newline bs

-- the index is that of the first newline from `start` on, or `end` if none comes before it
pub record FirstNewline (bytes : List ℕ) (start end at : ℕ) : Type 0 where
  pub low : start ≤ at
  pub high : at ≤ end
  pub before : Lacks (slice_range bytes start at)
  pub stands : at < end → slice_index bytes at ≡ 10
