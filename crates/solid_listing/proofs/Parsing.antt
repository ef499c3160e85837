-- A text is read back: the lines of the words that were written.
use Rattle.solid_listing.proofs.Prelude.{◌≡◌, ℕ, Bool, true, false, cond, ◌&&◌, nat_eq, nat_lt, List, [], ◌∷◌, ◌++◌, refl, sym, ap, ◌∙◌, arith, append_assoc, true≢false, append-nil, nat_tests, and_from, and_first, and_second}
use Rattle.solid_listing.specs.Lines.{spaced, line_text, text_of}

abbrev pub Word : Type 0
Word = List ℕ

abbrev pub Line : Type 0
Line = List Word

-- each byte stands behind the space
abbrev pub is_clean : Word → Bool
is_clean [] = true
is_clean (b ∷ bs) = nat_lt 32 b && is_clean bs

abbrev pub are_clean : Line → Bool
are_clean [] = true
are_clean (w ∷ ws) = is_clean w && are_clean ws

-- a line has two words or more, and each is clean
abbrev pub is_good : Line → Bool
is_good (w ∷ v ∷ ws) = are_clean (w ∷ v ∷ ws)
is_good l = false

abbrev pub are_good : List Line → Bool
are_good [] = true
are_good (l ∷ ls) = is_good l && are_good ls

-- a byte is put before the first word of the first line
onto : ℕ → List Line → List Line
onto b [] = []
onto b ([] ∷ ls) = [] ∷ ls
onto b ((w ∷ ws) ∷ ls) = ((b ∷ w) ∷ ws) ∷ ls

-- a word is begun before the first line's words
begun : List Line → List Line
begun [] = []
begun (l ∷ ls) = ([] ∷ l) ∷ ls

-- the lines of a text, read from its end
pub parsed : List ℕ → List Line
parsed [] = []
parsed (b ∷ t) = cond (nat_eq b 10) (([] ∷ []) ∷ parsed t) (cond (nat_eq b 32) (begun (parsed t)) (onto b (parsed t)))

put_before : (b : ℕ) (w : Word) (ws : Line) (ls : List Line) → onto b ((w ∷ ws) ∷ ls) ≡ ((b ∷ w) ∷ ws) ∷ ls
unfolding onto
put_before b w ws ls = refl

parsed_word : (w t v : List ℕ) (vs : Line) (ls : List Line) → is_clean w ≡ true → parsed t ≡ (v ∷ vs) ∷ ls → parsed (w ++ t) ≡ ((w ++ v) ∷ vs) ∷ ls
unfolding parsed
parsed_word [] t v vs ls c e = e
parsed_word (b ∷ w) t v vs ls c e =
    let big : nat_lt 32 b ≡ true = and_first (nat_lt 32 b) (is_clean w) c in
    let p : nat_eq b 10 ≡ false = grind (arith, nat_tests) in
    let q : nat_eq b 32 ≡ false = grind (arith, nat_tests) in
    ap (λ x. cond x (([] ∷ []) ∷ parsed (w ++ t)) (cond (nat_eq b 32) (begun (parsed (w ++ t))) (onto b (parsed (w ++ t))))) p
    ∙ ap (λ x. cond x (begun (parsed (w ++ t))) (onto b (parsed (w ++ t)))) q
    ∙ ap (onto b) (parsed_word w t v vs ls (and_second (nat_lt 32 b) (is_clean w) c) e)
    ∙ put_before b (w ++ v) vs ls

parsed_newline : (t : List ℕ) → parsed (10 ∷ t) ≡ ([] ∷ []) ∷ parsed t
unfolding parsed
parsed_newline t = refl

parsed_space : (t : List ℕ) (l : Line) (ls : List Line) → parsed t ≡ l ∷ ls → parsed (32 ∷ t) ≡ ([] ∷ l) ∷ ls
unfolding parsed begun
parsed_space t l ls e = ap begun e

parsed_words : (ws : Line) (t : List ℕ) → are_clean ws ≡ true → parsed (spaced ws ++ 10 ∷ t) ≡ ([] ∷ ws) ∷ parsed t
parsed_words [] t c = parsed_newline t
parsed_words (w ∷ ws) t c = parsed_space ((w ++ spaced ws) ++ 10 ∷ t) (w ∷ ws) (parsed t)
    (ap parsed (append_assoc w (spaced ws) (10 ∷ t))
    ∙ parsed_word w (spaced ws ++ 10 ∷ t) [] ws (parsed t) (and_first (is_clean w) (are_clean ws) c) (parsed_words ws t (and_second (is_clean w) (are_clean ws) c))
    ∙ ap (λ (v : Word). (v ∷ ws) ∷ parsed t) (append-nil w))

parsed_line : (w : Word) (ws : Line) (t : List ℕ) → are_clean (w ∷ ws) ≡ true → parsed (line_text (w ∷ ws) ++ t) ≡ (w ∷ ws) ∷ parsed t
parsed_line w ws t c =
    ap parsed (append_assoc w (spaced ws ++ 10 ∷ []) t ∙ ap (λ (s : List ℕ). w ++ s) (append_assoc (spaced ws) (10 ∷ []) t))
    ∙ parsed_word w (spaced ws ++ 10 ∷ t) [] ws (parsed t) (and_first (is_clean w) (are_clean ws) c) (parsed_words ws t (and_second (is_clean w) (are_clean ws) c))
    ∙ ap (λ (v : Word). (v ∷ ws) ∷ parsed t) (append-nil w)

parsed_nothing : parsed [] ≡ []
unfolding parsed
parsed_nothing = refl

-- a text of good lines is read back
pub parsed_text : (ls : List Line) → are_good ls ≡ true → parsed (text_of ls) ≡ ls
parsed_text [] g = parsed_nothing
parsed_text ((w ∷ v ∷ ws) ∷ ls) g =
    parsed_line w (v ∷ ws) (text_of ls) (and_first (is_good (w ∷ v ∷ ws)) (are_good ls) g)
    ∙ ap (λ (ms : List Line). (w ∷ v ∷ ws) ∷ ms) (parsed_text ls (and_second (is_good (w ∷ v ∷ ws)) (are_good ls) g))
parsed_text (l ∷ ls) g = absurd (true≢false (sym g))

pub parsed_one : (w : Word) → is_clean w ≡ true → parsed (text_of ((w ∷ []) ∷ [])) ≡ (w ∷ []) ∷ []
parsed_one w c = parsed_line w [] [] (and_from (is_clean w) true c refl) ∙ ap (λ (ms : List Line). (w ∷ []) ∷ ms) (parsed_text [] refl)
