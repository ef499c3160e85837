-- The lines of a text are its parts between newlines.
use Rattle.script_reader.proofs.Prelude.{◌≡◌, ◌≢◌, inl, inr, ℕ, List, [], ◌∷◌, refl, sym, ap, subst, ◌∙◌, arith, ◌==◌, onto_first, cases_Bool, nat_tests, lines_of}
use Rattle.script_reader.proofs.LinesOf.{first_line, last_line}
use Rattle.script_reader.specs.Lined.{IsLined}

-- a byte of a line belongs to the line behind it
longer : (lines : List (List ℕ)) (b : ℕ) (text : List ℕ) → b ≢ 10 → IsLined lines text → IsLined (onto_first b lines) (b ∷ text)
longer [] b text h p = ((h, tt), inr (ap (λ (xs : List ℕ). b ∷ xs) p, omega arith, refl))
longer (line ∷ lines) b text h p = elim p.1 [
  | inl more ↦ ((h, p.0), inl (more.0, ap (λ (xs : List ℕ). b ∷ xs) more.1, more.2))
  | inr last ↦ ((h, p.0), inr (ap (λ (xs : List ℕ). b ∷ xs) last.0, omega arith, last.2))
]

lines_lined : (text : List ℕ) → IsLined (lines_of text) text
lines_lined [] = refl
lines_lined (b ∷ text) = elim (cases_Bool (b == 10)) [
  | inl newline ↦ let same : b ≡ 10 = grind (arith, nat_tests, newline) in rw newline (tt, inl (text, ap (λ (c : ℕ). c ∷ text) same, lines_lined text))
  | inr other ↦ let differs : b ≢ 10 = λ e. cc (other, ap (λ (c : ℕ). c == 10) e) in rw other (longer (lines_of text) b text differs (lines_lined text))
]

pub lined_lines : (lines : List (List ℕ)) (text : List ℕ) → IsLined lines text → lines_of text ≡ lines
lined_lines [] text p = rw p refl
lined_lines (line ∷ lines) text p = elim p.1 [
  | inl more ↦ ap lines_of more.1 ∙ first_line line more.0 p.0 ∙ ap (λ (ls : List (List ℕ)). line ∷ ls) (lined_lines lines more.0 more.2)
  | inr last ↦ ap lines_of last.0 ∙ last_line line p.0 last.1 ∙ ap (λ (ls : List (List ℕ)). line ∷ ls) (sym last.2)
]

pub lines_are_lined : (lines : List (List ℕ)) (text : List ℕ) → lines_of text ≡ lines → IsLined lines text
lines_are_lined lines text e = subst (λ (ls : List (List ℕ)). IsLined ls text) e (lines_lined text)
