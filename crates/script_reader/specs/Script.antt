-- The lines of a script, in order. They don't depend on the pieces in which the reader gives the bytes.
use Rattle.std.specs.Prelude.{◌≡◌, ◌≤◌, ◌+◌, ◌-◌, ℕ, List, [], ◌++◌, length, Option}
use Rattle.std.specs.Io.KnownBytes.{Consumes, IsAtEnd}
use Rattle.script_reader.specs.Newline.{Lacks}
use Rattle.script_reader.specs.Lines.{lines_of, with_newlines, within_limit}
use Rattle.script_reader.specs.State.{reader_of, taken_of, unread_of, ending_of}
use Rattle.script_reader.specs.declared.lines.Ending.{Ending}
use Rattle.script_reader.specs.declared.lines.Ending.TheVariants.{Ended}
use Rattle.script_reader.specs.declared.lines.Found.{Found}
use Rattle.script_reader.specs.declared.lines.Found.TheVariants as found
use Rattle.script_reader.specs.declared.lines.Lines.{Lines}

-- The reader gave bytes. Whatever still comes, the lines of all bytes are those that were heard, and then those of the bytes that are in no line yet.
pub record Reading (first now : Option (List ℕ)) (taken : ℕ) (unread : List ℕ) (ending : Ending) (heard : List (List ℕ)) : Type 0 where
  pub given : List ℕ
  pub consumed : Consumes first now given
  pub counted : taken ≡ length given
  pub text : (future : List ℕ) → (ending ≡ Ended → future ≡ []) → lines_of (within_limit 0 given ++ future) ≡ heard ++ lines_of (unread ++ future)
  pub at_end : ending ≡ Ended → IsAtEnd now

-- the lines that were heard so far
abbrev pub HasRead : {R : Type 0} → (R → Option (List ℕ)) → Option (List ℕ) → Lines R → List (List ℕ) → Type 0
HasRead remaining first lines heard = Reading first (remaining (reader_of lines)) (taken_of lines) (unread_of lines) (ending_of lines) heard

-- the reader gave its end, and all lines of its bytes were heard
pub record IsReadOut (first last : Option (List ℕ)) (heard : List (List ℕ)) : Type 0 where
  pub given : List ℕ
  pub consumed : Consumes first last given
  pub lines : lines_of (within_limit 0 given) ≡ heard
  pub within : length given ≤ 67108864
  pub end : IsAtEnd last

-- the reading ended after a newline or within a line, which wasn't heard; each line that was heard has its newline
pub record BreaksOff (first last : Option (List ℕ)) (heard : List (List ℕ)) (answer : Found) : Type 0 where
  pub given : List ℕ
  pub consumed : Consumes first last given
  pub rest : List ℕ
  pub lacks : Lacks rest
  pub text : within_limit 0 given ≡ with_newlines heard ++ rest
  pub lines : lines_of (within_limit 0 given) ≡ heard ++ lines_of rest
  pub too_long : answer ≡ found.TooLong → length given ≡ 67108865

-- how many bytes may still become part of a line
abbrev pub to_come : ℕ → List ℕ → ℕ
to_come taken unread = 67108865 - taken + length unread
