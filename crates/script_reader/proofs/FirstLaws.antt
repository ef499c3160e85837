-- What the first word of a line says.
use Rattle.script_reader.proofs.Prelude.{◌≡◌, ℕ, ◌<◌, false, List, ◌∷◌, Option, Some, None, Ok, Err, length, take, drop, refl, ap, one-add, option_map, is_space, words, word_len, IsAtWord, first_by, Word, said, next_of, Fault}
use Rattle.script_reader.proofs.WordLaws.{first_word}

pub first_longer : {A : Type 0} (read : Word → Option A) (c : ℕ) (cs : List ℕ) → is_space c ≡ false → first_by read (c ∷ cs) ≡ first_by (λ (w : Word). read (c ∷ w)) cs
first_longer read c cs no_gap = rw (no_gap, one-add) refl

-- ---- what the first word says

from_said : {A : Type 0} (wrong : Fault) (o : Option A) (xs : List ℕ) (x : A) (rest : List ℕ) → option_map {U = A × List ℕ} (λ (y : A). (y, xs)) o ≡ Some (x, rest) → said wrong o (words xs) ≡ Ok (x, words rest)
from_said {A} wrong (Some y) xs x rest e =
    let same : (y, xs) ≡ (x, rest) = cc e in
    ap (λ (p : A × List ℕ). Ok (p.0, words p.1)) same
from_said wrong None xs x rest e = absurd (cc e)

from_unsaid : {A : Type 0} (wrong : Fault) (o : Option A) (xs : List ℕ) → option_map {U = A × List ℕ} (λ (y : A). (y, xs)) o ≡ None → said wrong o (words xs) ≡ Err wrong
from_unsaid wrong (Some y) xs e = absurd (cc e)
from_unsaid wrong None xs e = refl

pub first_said : {A : Type 0} (wrong : Fault) (read : Word → Option A) (ws : List Word) (xs : List ℕ) (x : A) (rest : List ℕ) → ws ≡ words xs → 0 < length xs → IsAtWord xs → first_by read xs ≡ Some (x, rest) → next_of wrong read ws ≡ Ok (x, words rest)
first_said wrong read ws xs x rest same some front e = rw (same, first_word xs some front) (from_said wrong (read (take (word_len xs) xs)) (drop (word_len xs) xs) x rest e)

pub first_unsaid : {A : Type 0} (wrong : Fault) (read : Word → Option A) (ws : List Word) (xs : List ℕ) → ws ≡ words xs → 0 < length xs → IsAtWord xs → first_by read xs ≡ None → next_of wrong read ws ≡ Err wrong
first_unsaid wrong read ws xs same some front e = rw (same, first_word xs some front) (from_unsaid wrong (read (take (word_len xs) xs)) (drop (word_len xs) xs) e)
