-- The words of a line are its parts between separators.
use Rattle.script_reader.proofs.Prelude.{◌≡◌, inl, inr, ℕ, ◌<◌, true, false, List, [], ◌∷◌, ◌++◌, length, refl, ap, subst, ◌∙◌, arith, ◌==◌, onto_first, cases_Bool, nat_tests, is_space, joined, words, Word, IsSeparator, IsGap, HasNoGap, IsAtGap, IsParted}

separates : (b : ℕ) → is_space b ≡ true → IsSeparator b
separates b e = elim (cases_Bool (b == 32)) [
  | inl space ↦ inl (grind (arith, nat_tests, space))
  | inr other ↦ elim (cases_Bool (b == 9)) [
    | inl tab ↦ inr (inl (grind (arith, nat_tests, tab)))
    | inr none ↦ elim (cases_Bool (b == 13)) [
      | inl return ↦ inr (inr (grind (arith, nat_tests, return)))
      | inr last ↦ absurd (cc (rw (other, none, last) at e))
    ]
  ]
]

is_separator : (b : ℕ) → IsSeparator b → is_space b ≡ true
is_separator b h = elim h [
  | inl space ↦ rw space refl
  | inr other ↦ elim other [ inl tab ↦ rw tab refl | inr return ↦ rw return refl ]
]

no_separator : (b : ℕ) → is_space b ≡ false → ¬ IsSeparator b
no_separator b e = λ h. cc (e, is_separator b h)

isnt_space : (b : ℕ) → ¬ IsSeparator b → is_space b ≡ false
isnt_space b h = elim (cases_Bool (is_space b)) [ inl is ↦ absurd (h (separates b is)) | inr isnt ↦ isnt ]

-- ---- the words are parted

wider : (ws : List Word) (b : ℕ) (line : List ℕ) → IsSeparator b → IsParted ws line → IsParted ws (b ∷ line)
wider [] b line s p = (s, p)
wider (w ∷ ws) b line s p = (b ∷ p.0, p.1, ap (λ (xs : List ℕ). b ∷ xs) p.2, (s, p.3), p.4, p.5, p.6, p.7)

-- a byte of a word belongs to the word behind it
begun_word : (w : Word) (ws : List Word) (b c : ℕ) (line gap rest : List ℕ) → ¬ IsSeparator b → ¬ IsSeparator c → c ∷ line ≡ gap ++ (w ++ rest) → IsGap gap → 0 < length w → HasNoGap w → IsAtGap rest → IsParted ws rest
    → IsParted ((b ∷ w) ∷ ws) (b ∷ c ∷ line)
begun_word w ws b c line [] rest h k e g some calm at p = ([], rest, ap (λ (xs : List ℕ). b ∷ xs) e, tt, omega arith, (h, calm), at, p)
begun_word w ws b c line (x ∷ xs) rest h k e g some calm at p = let same : x ≡ c = cc e in absurd (k (subst IsSeparator same g.0))

begun : (ws : List Word) (b c : ℕ) (line : List ℕ) → ¬ IsSeparator b → ¬ IsSeparator c → IsParted ws (c ∷ line) → IsParted (onto_first b ws) (b ∷ c ∷ line)
begun [] b c line h k p = absurd (k p.0)
begun (w ∷ ws) b c line h k p = begun_word w ws b c line p.0 p.1 h k p.2 p.3 p.4 p.5 p.6 p.7

joins : (b : ℕ) (line : List ℕ) (others : List Word) → ¬ IsSeparator b → IsParted others line → IsParted (joined b line others) (b ∷ line)
joins b [] others h p = ([], [], refl, tt, omega arith, (h, tt), tt, p)
joins b (c ∷ line) others h p = elim (cases_Bool (is_space c)) [
  | inl gap ↦ rw gap ([], c ∷ line, refl, tt, omega arith, (h, tt), separates c gap, p)
  | inr more ↦ rw more (begun others b c line h (no_separator c more) p)
]

words_parted : (line : List ℕ) → IsParted (words line) line
words_parted [] = tt
words_parted (b ∷ line) = elim (cases_Bool (is_space b)) [
  | inl gap ↦ rw gap (wider (words line) b line (separates b gap) (words_parted line))
  | inr here ↦ rw here (joins b line (words line) (no_separator b here) (words_parted line))
]

-- ---- what is parted so has these words

no_words : (line : List ℕ) → IsGap line → words line ≡ []
no_words [] h = refl
no_words (b ∷ line) h = rw (is_separator b h.0) (no_words line h.1)

first_word : (w : Word) (rest : List ℕ) → 0 < length w → HasNoGap w → IsAtGap rest → words (w ++ rest) ≡ w ∷ words rest
first_word [] rest some h at = absurd (omega (arith, some))
first_word (b ∷ []) [] some h at = rw (isnt_space b h.0) refl
first_word (b ∷ []) (c ∷ rest) some h at = rw (isnt_space b h.0, is_separator c at) refl
first_word (b ∷ c ∷ w) rest some h at =
    let more : words (c ∷ w ++ rest) ≡ (c ∷ w) ∷ words rest = first_word (c ∷ w) rest (omega arith) h.1 at in
    let here : words (b ∷ c ∷ w ++ rest) ≡ onto_first b (words (c ∷ w ++ rest)) = rw (isnt_space b h.0, isnt_space c h.1.0) refl in
    here ∙ ap (λ (ws : List Word). onto_first b ws) more

behind_gap : (gap line : List ℕ) → IsGap gap → words (gap ++ line) ≡ words line
behind_gap [] line h = refl
behind_gap (b ∷ gap) line h = rw (is_separator b h.0) (behind_gap gap line h.1)

pub parted_words : (ws : List Word) (line : List ℕ) → IsParted ws line → words line ≡ ws
parted_words [] line p = no_words line p
parted_words (w ∷ ws) line p =
    ap words p.2 ∙ behind_gap p.0 (w ++ p.1) p.3 ∙ first_word w p.1 p.4 p.5 p.6 ∙ ap (λ (vs : List Word). w ∷ vs) (parted_words ws p.1 p.7)

pub words_are_parts : (ws : List Word) (line : List ℕ) → words line ≡ ws → IsParted ws line
words_are_parts ws line e = subst (λ (vs : List Word). IsParted vs line) e (words_parted line)
