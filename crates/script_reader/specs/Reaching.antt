-- What a writer has handed on, and what a read asks for.
use Rattle.std.specs.Prelude.{◌≡◌, ⊤, ℕ, List, Option, Some, None}
use Rattle.std.specs.Io.KnownBytes.{Consumes}
use Rattle.script_reader.specs.Newline.{Lacks}

-- if it is known what a writer has handed on, it has handed on all that it holds
abbrev pub Reaches : Option (List ℕ) → Option (List ℕ) → Type 0
Reaches None contents = ⊤
Reaches (Some bytes) contents = contents ≡ Some bytes

-- what a read asks for holds of these contents, also after reads that gave no newline
abbrev pub MayRead : {R : Type 0} → (remaining : R → Option (List ℕ)) (asks : R → Option (List ℕ) → Type 0) → R → Option (List ℕ) → Type 0
MayRead {R} remaining asks reader contents = (now : R) (given : List ℕ) → Consumes (remaining reader) (remaining now) given → Lacks given → asks now contents
