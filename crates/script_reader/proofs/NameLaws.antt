-- A word by its letters.
use Rattle.script_reader.proofs.Prelude.{ap, opening_of, words}
use Rattle.script_reader.specs.declared.line.Opening.TheVariants as opening
use Rattle.script_reader.specs.declared.name.Name.TheVariants as name
use Rattle.std.proofs.Common.{◌≡◌, ℕ, ◌-◌, ◌<◌, ◌≤◌, List, [], ◌∷◌, length, get_or, take, drop, arith, take_all}

pub of_three : (w : List ℕ) (a b c : ℕ) → 3 ≤ length w → length w < 4 → get_or w 0 0 ≡ a → get_or w 1 0 ≡ b → get_or w 2 0 ≡ c → w ≡ a ∷ b ∷ c ∷ []
of_three (x0 ∷ x1 ∷ x2 ∷ []) a b c low high e0 e1 e2 = cc (e0, e1, e2)
of_three w a b c low high e0 e1 e2 = absurd (omega (arith, low, high))

pub of_four : (w : List ℕ) (a b c d : ℕ) → 4 ≤ length w → length w < 5 → get_or w 0 0 ≡ a → get_or w 1 0 ≡ b → get_or w 2 0 ≡ c → get_or w 3 0 ≡ d → w ≡ a ∷ b ∷ c ∷ d ∷ []
of_four (x0 ∷ x1 ∷ x2 ∷ x3 ∷ []) a b c d low high e0 e1 e2 e3 = cc (e0, e1, e2, e3)
of_four w a b c d low high e0 e1 e2 e3 = absurd (omega (arith, low, high))

-- a line by its first letters, and what follows them
pub begins_four : (line : List ℕ) (a b c d : ℕ) → 4 ≤ length line → get_or line 0 0 ≡ a → get_or line 1 0 ≡ b → get_or line 2 0 ≡ c → get_or line 3 0 ≡ d
    → line ≡ a ∷ b ∷ c ∷ d ∷ take (length line - 4) (drop 4 line)
begins_four (x0 ∷ x1 ∷ x2 ∷ x3 ∷ rest) a b c d low e0 e1 e2 e3 =
    let all = take_all (length (x0 ∷ x1 ∷ x2 ∷ x3 ∷ rest) - 4) rest (omega arith) in cc (all, e0, e1, e2, e3)
begins_four line a b c d low e0 e1 e2 e3 = absurd (omega (arith, low))

-- a line that begins with `kvfs` and a space
pub begins_kvfs : (line : List ℕ) → 5 ≤ length line → get_or line 0 0 ≡ 107 → get_or line 1 0 ≡ 118 → get_or line 2 0 ≡ 102 → get_or line 3 0 ≡ 115 → get_or line 4 0 ≡ 32
    → opening_of (words line) ≡ opening.Command name.Kvfs (words (take (length line - 5) (drop 5 line)))
begins_kvfs (x0 ∷ x1 ∷ x2 ∷ x3 ∷ x4 ∷ rest) low e0 e1 e2 e3 e4 =
    let all = take_all (length (x0 ∷ x1 ∷ x2 ∷ x3 ∷ x4 ∷ rest) - 5) rest (omega arith) in
    let line : x0 ∷ x1 ∷ x2 ∷ x3 ∷ x4 ∷ rest ≡ 107 ∷ 118 ∷ 102 ∷ 115 ∷ 32 ∷ take (length (x0 ∷ x1 ∷ x2 ∷ x3 ∷ x4 ∷ rest) - 5) rest = cc (all, e0, e1, e2, e3, e4) in
    ap (λ (xs : List ℕ). opening_of (words xs)) line
begins_kvfs line low e0 e1 e2 e3 e4 = absurd (omega (arith, low))

pub of_five : (w : List ℕ) (a b c d e : ℕ) → 5 ≤ length w → length w < 6 → get_or w 0 0 ≡ a → get_or w 1 0 ≡ b → get_or w 2 0 ≡ c → get_or w 3 0 ≡ d → get_or w 4 0 ≡ e → w ≡ a ∷ b ∷ c ∷ d ∷ e ∷ []
of_five (x0 ∷ x1 ∷ x2 ∷ x3 ∷ x4 ∷ []) a b c d e low high e0 e1 e2 e3 e4 = cc (e0, e1, e2, e3, e4)
of_five w a b c d e low high e0 e1 e2 e3 e4 = absurd (omega (arith, low, high))

pub of_six : (w : List ℕ) (a b c d e f : ℕ) → 6 ≤ length w → length w < 7 → get_or w 0 0 ≡ a → get_or w 1 0 ≡ b → get_or w 2 0 ≡ c → get_or w 3 0 ≡ d → get_or w 4 0 ≡ e → get_or w 5 0 ≡ f → w ≡ a ∷ b ∷ c ∷ d ∷ e ∷ f ∷ []
of_six (x0 ∷ x1 ∷ x2 ∷ x3 ∷ x4 ∷ x5 ∷ []) a b c d e f low high e0 e1 e2 e3 e4 e5 = cc (e0, e1, e2, e3, e4, e5)
of_six w a b c d e f low high e0 e1 e2 e3 e4 e5 = absurd (omega (arith, low, high))
