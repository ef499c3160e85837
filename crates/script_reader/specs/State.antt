-- The state of the lines of a script.
use Rattle.std.specs.Prelude.{◌≡◌, ℕ, Bool, true, List, []}
use Rattle.script_reader.specs.Newline.{has_newline}
use Rattle.script_reader.specs.declared.lines.Ending.{Ending}
use Rattle.script_reader.specs.declared.lines.Ending.TheVariants.{Open, Ended, Failed, Over}
use Rattle.script_reader.specs.declared.lines.Lines.{Lines}

-- the reader, in the state in which it is now
abbrev pub reader_of : {R : Type 0} → Lines R → R
reader_of lines = lines.reader

-- how many bytes were read
abbrev pub taken_of : {R : Type 0} → Lines R → ℕ
taken_of lines = lines.taken

-- the bytes that were read and are in no line yet
abbrev pub unread_of : {R : Type 0} → Lines R → List ℕ
unread_of lines = lines.buffer.unread

-- the line that was found last
abbrev pub line_of : {R : Type 0} → Lines R → List ℕ
line_of lines = lines.buffer.line

-- whether more can be read, or why not
abbrev pub ending_of : {R : Type 0} → Lines R → Ending
ending_of lines = lines.ending

-- no read is needed: the ending is known, or a newline is there
abbrev pub is_ready : Ending → List ℕ → Bool
is_ready Open unread = has_newline unread
is_ready Ended unread = true
is_ready Failed unread = true
is_ready Over unread = true

-- the next answer is there without a further read
abbrev pub has_line : {R : Type 0} → Lines R → Bool
has_line lines = is_ready (ending_of lines) (unread_of lines)

-- nothing was read
pub record IsFresh {R : Type 0} (given : R) (lines : Lines R) : Type 0 where
  pub reader : reader_of lines ≡ given
  pub unread : unread_of lines ≡ []
  pub taken : taken_of lines ≡ 0
  pub ending : ending_of lines ≡ Open

-- nothing was read from one state to the next
pub record IsStill {R : Type 0} (old new : Lines R) : Type 0 where
  pub reader : reader_of new ≡ reader_of old
  pub taken : taken_of new ≡ taken_of old
  pub ending : ending_of new ≡ ending_of old
