-- Lines that grow by a word.
use Rattle.solid_listing.proofs.Prelude.{◌≡◌, ℕ, ◌+◌, ◌<◌, List, [], ◌∷◌, ◌++◌, map, drop, length, get_or, refl, sym, ap, ◌∙◌, append_assoc, append-nil, drop_more}
use Rattle.solid_listing.specs.Lines.{spaced, line_text}

pub spaced-append : (vs ws : List (List ℕ)) → spaced (vs ++ ws) ≡ spaced vs ++ spaced ws
spaced-append [] ws = refl
spaced-append (v ∷ vs) ws = ap (λ (t : List ℕ). 32 ∷ (v ++ t)) (spaced-append vs ws) ∙ ap (λ (t : List ℕ). 32 ∷ t) (sym (append_assoc v (spaced vs) (spaced ws)))

pub spaced_one : (w : List ℕ) → spaced (w ∷ []) ≡ 32 ∷ w
spaced_one w = ap (λ (t : List ℕ). 32 ∷ t) (append-nil w)

-- the next word of those to come
pub spaced_next : {X : Type 0} (f : X → List ℕ) (xs : List X) (i : ℕ) (x : X) → i < length xs → x ≡ get_or xs i x → spaced (map f (drop i xs)) ≡ (32 ∷ f x) ++ spaced (map f (drop (i + 1) xs))
spaced_next f xs i x h is =
    ap (λ ys. spaced (map f ys)) (drop_more xs i x h)
    ∙ ap (λ y. 32 ∷ (f y ++ spaced (map f (drop (i + 1) xs)))) (sym is)

-- a last word and the newline, put behind a line's words
pub last_word : (w v : List ℕ) (vs : List (List ℕ)) → (w ++ spaced vs) ++ ((32 ∷ v) ++ 10 ∷ []) ≡ line_text (w ∷ (vs ++ v ∷ []))
last_word w v vs = append_assoc w (spaced vs) ((32 ∷ v) ++ 10 ∷ [])
    ∙ ap (λ (t : List ℕ). w ++ t) (sym (append_assoc (spaced vs) (32 ∷ v) (10 ∷ [])) ∙ ap (λ (t : List ℕ). t ++ 10 ∷ []) (sym (spaced-append vs (v ∷ []) ∙ ap (λ (t : List ℕ). spaced vs ++ t) (spaced_one v))))

-- a line in pieces: its first words, the other ones, and the newline
pub line_parts : (w : List ℕ) (vs ws : List (List ℕ)) → line_text (w ∷ (vs ++ ws)) ≡ (w ++ spaced vs) ++ (spaced ws ++ 10 ∷ [])
line_parts w vs ws =
    ap (λ (t : List ℕ). w ++ t) (ap (λ (t : List ℕ). t ++ 10 ∷ []) (spaced-append vs ws) ∙ append_assoc (spaced vs) (spaced ws) (10 ∷ []))
    ∙ sym (append_assoc w (spaced vs) (spaced ws ++ 10 ∷ []))
