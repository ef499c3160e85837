-- Lines of words.
use Rattle.std.specs.Prelude.{ℕ, List, [], ◌∷◌, ◌++◌, flat_map}

-- words that follow another one, each after a space
abbrev pub spaced : List (List ℕ) → List ℕ
spaced [] = []
spaced (w ∷ ws) = 32 ∷ (w ++ spaced ws)

-- a line is a list of words: one space separates them, and a newline ends it
abbrev pub line_text : List (List ℕ) → List ℕ
line_text [] = 10 ∷ []
line_text (w ∷ ws) = w ++ (spaced ws ++ 10 ∷ [])

-- a text is a list of lines
abbrev pub text_of : List (List (List ℕ)) → List ℕ
text_of ls = flat_map line_text ls
