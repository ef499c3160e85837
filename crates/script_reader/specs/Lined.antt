-- Which lines a text has, apart from how they are read.
use Rattle.std.specs.Prelude.{◌≡◌, ◌⊎◌, ◌<◌, ℕ, List, [], ◌∷◌, ◌++◌, length}
use Rattle.script_reader.specs.Newline.{Lacks}

-- each line ends with a newline; only the last may lack it, if it isn't empty
abbrev pub IsLined : List (List ℕ) → List ℕ → Type 0
IsLined [] text = text ≡ []
IsLined (line ∷ lines) text = Lacks line × (((rest : List ℕ) × (text ≡ line ++ 10 ∷ rest) × IsLined lines rest) ⊎ ((text ≡ line) × (0 < length line) × (lines ≡ [])))
