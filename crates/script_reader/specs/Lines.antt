-- The lines of a script, and what was read for them.
use Rattle.std.specs.Prelude.{◌≡◌, ◌⊎◌, ℕ, Bool, ◌+◌, ◌-◌, ◌<◌, ◌≤◌, List, [], ◌∷◌, ◌++◌, length, take, Option, true, false, if◌then◌else◌, ◌==◌}
use Rattle.std.specs.List.{onto_first}
use Rattle.std.specs.Io.KnownBytes.{Consumes}
use Rattle.script_reader.specs.Newline.{Lacks}
use Rattle.script_reader.specs.Buffer.{Holding}
use Rattle.script_reader.specs.declared.lines.Ending.{Ending}
use Rattle.script_reader.specs.declared.lines.Ending.TheVariants.{Open, Ended, Failed, Over}
use Rattle.script_reader.specs.declared.lines.Found.{Found}
use Rattle.script_reader.specs.declared.lines.Found.TheVariants as found

-- the lines of a text; the last may lack its newline
abbrev pub lines_of : List ℕ → List (List ℕ)
lines_of [] = []
lines_of (b ∷ bs) = if b == 10 then [] ∷ lines_of bs else onto_first b (lines_of bs)

-- the text of lines that all have their newline
abbrev pub with_newlines : List (List ℕ) → List ℕ
with_newlines [] = []
with_newlines (line ∷ lines) = line ++ 10 ∷ with_newlines lines

-- those of the given bytes that are within the limit of a script, when so many were read before them
unfoldable pub within_limit : ℕ → List ℕ → List ℕ
within_limit taken given = take (67108864 - taken) given

-- the reader gave bytes, which are counted; those within the limit are appended to the unread ones
pub record Reads (before after : Option (List ℕ)) (taken count : ℕ) (old new : List ℕ) : Type 0 where
  pub given : List ℕ
  pub consumed : Consumes before after given
  pub counted : count ≡ taken + length given
  pub text : new ≡ old ++ within_limit taken given

-- the first line of a text, and what follows its newline; or, if no more comes, the last line, which has no newline
abbrev pub FirstLine : Ending → List ℕ → List ℕ → List ℕ → Type 0
FirstLine ending text line rest = Lacks line × ((text ≡ line ++ 10 ∷ rest) ⊎ ((text ≡ line) × (rest ≡ []) × (0 < length line) × (ending ≡ Ended)))

-- what is found in a text, the line if one was found, and the rest of the text
abbrev pub Answers : Found → Ending → List ℕ → List ℕ → List ℕ → Type 0
Answers found.Line ending text line rest = FirstLine ending text line rest × (length line ≤ 65536)
Answers found.Long ending text line rest = (long : List ℕ) × FirstLine ending text long rest × (65536 < length long)
Answers found.End ending text line rest = (text ≡ []) × (rest ≡ []) × (ending ≡ Ended)
Answers found.Read ending text line rest = Lacks text × Lacks rest × (ending ≡ Failed)
Answers found.TooLong ending text line rest = Lacks text × Lacks rest × (ending ≡ Over)

-- the reader gave bytes; the answer is right for the unread bytes from before and these bytes after them
pub record Advances (before after : Option (List ℕ)) (taken count : ℕ) (unread : List ℕ) (line rest : List ℕ) (ending : Ending) (answer : Found) : Type 0 where
  pub given : List ℕ
  pub consumed : Consumes before after given
  pub counted : count ≡ taken + length given
  pub answered : Answers answer ending (unread ++ within_limit taken given) line rest

-- the answer for what stands after the last newline
abbrev pub LastAnswer : Holding → Holding → Ending → Bool → Found → Type 0
LastAnswer old new Open is_long answer = ⊥
LastAnswer old new Failed is_long answer = (answer ≡ found.Read) × (new.unread ≡ old.unread)
LastAnswer old new Over is_long answer = (answer ≡ found.TooLong) × (new.unread ≡ old.unread)
LastAnswer old new Ended is_long found.Line = (is_long ≡ false) × (length old.unread ≤ 65536) × (0 < length old.unread) × (new.line ≡ old.unread) × (new.unread ≡ [])
LastAnswer old new Ended is_long found.Long = ((is_long ≡ true) ⊎ (65536 < length old.unread)) × (new.unread ≡ [])
LastAnswer old new Ended is_long found.End = (is_long ≡ false) × (old.unread ≡ []) × (new.unread ≡ [])
LastAnswer old new Ended is_long found.Read = ⊥
LastAnswer old new Ended is_long found.TooLong = ⊥
