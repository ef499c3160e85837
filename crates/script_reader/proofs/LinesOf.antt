-- The lines of a text that begins with a line.
use Rattle.script_reader.proofs.Prelude.{◌≡◌, ◌≢◌, inl, inr, ℕ, ◌<◌, false, List, [], ◌∷◌, ◌++◌, length, refl, sym, ap, ◌∙◌, arith, append_assoc, length-append, ◌==◌, cases_Bool, nat_tests, onto_first, Lacks, lines_of, with_newlines}

differs : (b : ℕ) → b ≢ 10 → (b == 10) ≡ false
differs b h = grind (arith, nat_tests)

pub first_line : (line rest : List ℕ) → Lacks line → lines_of (line ++ 10 ∷ rest) ≡ line ∷ lines_of rest
first_line [] rest h = refl
first_line (b ∷ line) rest h = rw (differs b h.0, first_line line rest h.1) refl

pub last_line : (line : List ℕ) → Lacks line → 0 < length line → lines_of line ≡ line ∷ []
last_line [] h some = absurd (omega arith)
last_line (b ∷ []) h some = rw (differs b h.0) refl
last_line (b ∷ c ∷ line) h some = rw (differs b h.0, last_line (c ∷ line) h.1 (omega arith)) refl

-- ---- lines that all have their newline

pub with_newlines-append : (lines more : List (List ℕ)) → with_newlines (lines ++ more) ≡ with_newlines lines ++ with_newlines more
with_newlines-append [] more = refl
with_newlines-append (line ∷ lines) more = ap (λ (xs : List ℕ). line ++ 10 ∷ xs) (with_newlines-append lines more) ∙ sym (append_assoc line (10 ∷ with_newlines lines) (with_newlines more))

-- a byte goes before a text that ends with a newline, and so isn't empty
longer_text : (b : ℕ) (lines : List (List ℕ)) (text : List ℕ) → with_newlines lines ≡ text ++ 10 ∷ [] → with_newlines (onto_first b lines) ≡ b ∷ text ++ 10 ∷ []
longer_text b [] text e = absurd (omega (arith, ap length e, length-append text (10 ∷ [])))
longer_text b (line ∷ lines) text e = ap (λ (xs : List ℕ). b ∷ xs) e

pub ended_text : (text : List ℕ) → with_newlines (lines_of (text ++ 10 ∷ [])) ≡ text ++ 10 ∷ []
ended_text [] = refl
ended_text (b ∷ text) = elim (cases_Bool (b == 10)) [
  | inl newline ↦
      let same : 10 ≡ b = grind (arith, nat_tests, newline) in
      rw newline (ap (λ (xs : List ℕ). 10 ∷ xs) (ended_text text) ∙ ap (λ (c : ℕ). c ∷ text ++ 10 ∷ []) same)
  | inr other ↦ rw other (longer_text b (lines_of (text ++ 10 ∷ [])) text (ended_text text))
]
