-- Scripts and the answers to them, as texts.
use Rattle.std.specs.Prelude.{◌≡◌, ◌≢◌, ◌⊎◌, ◌↔◌, ℕ, zero, suc, ◌+◌, cond, false, List, [], ◌∷◌, ◌++◌, codes, Option, bytes_eq}
use Rattle.std.specs.Io.KnownBytes.{Consumes, Appends, IsAtEnd}
use Rattle.std.specs.List.{AllByRecursion}
use Rattle.script_reader.specs.Lines.{lines_of}
use Rattle.script_reader.specs.Words.{words}
use Rattle.call_types.specs.declared.command.Change.{Change}
use Rattle.call_types.specs.declared.command.Change.TheVariants as change
use Rattle.call_types.specs.declared.command.Command.TheVariants as command
use Rattle.script_running.specs.Laws.{AsksFor}
use Rattle.script_running.specs.Output.{output_of}
use Rattle.script_running.specs.declared.script_judging.judging.Summary.{Summary}

-- the answers to a script if no reply is `memory`
unfoldable pub answers : List ℕ → List ℕ
answers script = output_of false (lines_of script)

-- every line has its newline
abbrev pub EndsLine : List ℕ → Type 0
EndsLine text = (text ≡ []) ⊎ ((front : List ℕ) × (text ≡ front ++ codes "\n"))

-- a line with its newline
abbrev pub ended : List ℕ → List ℕ
ended line = line ++ codes "\n"

-- a text n times
abbrev pub times : ℕ → List ℕ → List ℕ
times zero text = []
times (suc n) text = text ++ times n text

-- no line of the script is this word alone
abbrev pub HasNo : List ℕ → List ℕ → Type 0
HasNo word script = AllByRecursion (λ line. words line ≢ word ∷ []) (lines_of script)

-- how many lines are this one
abbrev pub count_lines : List ℕ → List (List ℕ) → ℕ
count_lines line [] = 0
count_lines line (l ∷ ls) = cond (bytes_eq l line) 1 0 + count_lines line ls

-- how many replies are `ok`
abbrev pub oks : List ℕ → ℕ
oks text = count_lines (codes "ok") (lines_of text)

-- what comes after a script has this reply, which stands after the answers to that script
abbrev pub Adds : List ℕ → List ℕ → List ℕ → Type 0
Adds script more reply = answers (script ++ more) ≡ answers script ++ reply

-- the line asks for a change of the model: an operator or a larger command
abbrev pub AsksForChange : List ℕ → Type 0
AsksForChange line = (c : Change) × AsksFor line (command.Change c)

-- the change is a block or a split
abbrev pub IsBlockOrSplit : Change → Type 0
IsBlockOrSplit (change.Block n p dx dy dz) = Unit {0}
IsBlockOrSplit (change.Split n a b c d m) = Unit {0}
IsBlockOrSplit c = ⊥

-- no line of the script asks for another change: the other lines are undos, redos, questions, `list`, comments, or have a fault
abbrev pub OnlyBlocksAndSplits : List ℕ → Type 0
OnlyBlocksAndSplits script = AllByRecursion (λ line. (c : Change) → AsksFor line (command.Change c) → IsBlockOrSplit c) (lines_of script)

-- The text has an answer to each line in turn, after the script: the answer that follows the script and the lines before this one. But a line that
-- asks for a change may be answered `memory`, and then counts as if it hadn't been there.
abbrev pub TextAnswers : List ℕ → List (List ℕ) → List ℕ → Type 0
TextAnswers script [] text = text ≡ []
TextAnswers script (line ∷ lines) text = (AsksForChange line × ((rest : List ℕ) × (text ≡ codes "memory\n" ++ rest) × TextAnswers script lines rest))
    ⊎ ((reply : List ℕ) × (rest : List ℕ) × Adds script (ended line) reply × (text ≡ reply ++ rest) × TextAnswers (script ++ ended line) lines rest)

-- what comes after the one script, if it is of this kind, has the same answers as after the other
abbrev pub SameBehind : (List ℕ → Type 0) → List ℕ → List ℕ → Type 0
SameBehind Kind one other = (more reply : List ℕ) → Kind more → Adds one more reply ↔ Adds other more reply

-- n undos are answered `ok`, and lead to the empty model; whatever comes then, except redo, is answered as if it were the whole script
pub record IsTakenBack (script : List ℕ) (n : ℕ) : Type 0 where
  pub accepted : Adds script (times n (codes "undo\n")) (times n (codes "ok\n"))
  pub empty : Adds script (times n (codes "undo\n") ++ codes "list\n") (times n (codes "ok\n") ++ codes "empty\n")
  pub anew : SameBehind (HasNo (codes "redo")) (script ++ times n (codes "undo\n")) []

-- the reader gave all that it had, and what was written tells the answers to it; if no reply is `memory`, it is exactly `answers`
pub record Answered (reader old new : Option (List ℕ)) (summary : Summary) : Type 0 where
  pub given : List ℕ
  pub left : Option (List ℕ)
  pub out : List ℕ
  pub consumed : Consumes reader left given
  pub ended : IsAtEnd left
  pub appended : Appends old new out
  pub told : TextAnswers [] (lines_of given) out
  pub exact : summary.memory ≡ 0 → out ≡ answers given
