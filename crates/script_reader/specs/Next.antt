-- What a call for the next line gives, and how far it goes.
use Rattle.std.specs.Prelude.{◌≡◌, ℕ, true, List, Option}
use Rattle.std.specs.Io.KnownBytes.{IsAtEnd}
use Rattle.script_reader.specs.Lines.{Advances}
use Rattle.script_reader.specs.State.{reader_of, taken_of, unread_of, line_of, ending_of, has_line, IsStill}
use Rattle.script_reader.specs.declared.lines.Ending.TheVariants.{Open, Ended}
use Rattle.script_reader.specs.declared.lines.Lines.{Lines}
use Rattle.script_reader.specs.declared.lines.Found.{Found}

-- How far a call went. If it finds the end, the reader gave its end; if the answer was there before the call, nothing is read.
pub record Went {R : Type 0} (remaining : R → Option (List ℕ)) (old new : Lines R) (answer : Found) : Type 0 where
  pub advances : Advances (remaining (reader_of old)) (remaining (reader_of new)) (taken_of old) (taken_of new) (unread_of old) (line_of new) (unread_of new) (ending_of new) answer
  pub end : ending_of old ≡ Open → ending_of new ≡ Ended → IsAtEnd (remaining (reader_of new))
  pub still : has_line old ≡ true → IsStill old new
