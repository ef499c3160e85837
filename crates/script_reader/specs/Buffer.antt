-- What a buffer holds.
use Rattle.std.specs.Prelude.{◌≡◌, ◌≤◌, ℕ, Bool, true, false, List, ◌∷◌, ◌++◌, length, Option, Result, Ok, Err}
use Rattle.std.specs.Io.KnownBytes.{Consumes, Keeps, IsAtEnd}
use Rattle.script_reader.specs.Newline.{Lacks}

-- the bytes that are in no line yet, and the line that was taken last
pub record Holding : Type 0 where
  pub unread : List ℕ
  pub line : List ℕ

-- the first line was taken; or there is no whole line, and nothing changed
abbrev pub TakesLine : Holding → Holding → Bool → Type 0
TakesLine old new true = (old.unread ≡ new.line ++ 10 ∷ new.unread) × Lacks new.line
TakesLine old new false = (new.unread ≡ old.unread) × Lacks old.unread

-- bytes that were read stand after the unread ones
abbrev pub ReadsMore : {E : Type 0} → Holding → Holding → Option (List ℕ) → Option (List ℕ) → ℕ → Result ℕ E → Type 0
ReadsMore old new before after most (Ok n) = (given : List ℕ) × Consumes before after given × (new.unread ≡ old.unread ++ given) × (length given ≡ n) × (n ≤ most) × (n ≡ 0 → IsAtEnd after)
ReadsMore old new before after most (Err e) = Keeps before after × (new.unread ≡ old.unread)
