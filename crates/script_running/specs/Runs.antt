-- What a run may write for the bytes that it read.
use Rattle.std.specs.Prelude.{◌≡◌, ℕ, ◌≤◌, Bool, false, List, [], ◌++◌, length, Option, Result, Ok, Err}
use Rattle.std.specs.Io.KnownBytes.{Consumes, Appends, IsAtEnd}
use Rattle.script_running.specs.Common.{Lacks, RunFault, Summary, lines_of, new_journal, with_newlines, within_limit}
use Rattle.script_running.specs.Outs.{Outs, was_stopped}
use Rattle.script_running.specs.Output.{output_of, summary_of}
use Rattle.script_running.specs.declared.running.RunFault.TheVariants as fault

-- the bytes that the reader gave, the text that the writer took, and what the reader has left
pub record Moves (reader writer old : Option (List ℕ)) : Type 0 where
  pub given : List ℕ
  pub left : Option (List ℕ)
  pub out : List ℕ
  pub consumed : Consumes reader left given
  pub appended : Appends old writer out

-- All lines of the bytes are answered, or those up to the answer that stopped the run, and whatever comes after these bytes changes nothing. If no
-- answer stopped the run, the reader gave its end. If no answer was `memory`, the answers are the output of the lines.
pub record Served (reader old new : Option (List ℕ)) (stop : Bool) (summary : Summary) : Type 0 where
  pub moves : Moves reader new old
  pub outs : (more : List ℕ) → (IsAtEnd moves.left → more ≡ []) → Outs stop new_journal (lines_of (within_limit 0 moves.given ++ more)) moves.out summary
  pub finished : was_stopped stop summary ≡ false → IsAtEnd moves.left × (length moves.given ≤ 67108864)
  pub output : summary.memory ≡ 0 → (moves.out ≡ output_of stop (lines_of (within_limit 0 moves.given))) × (summary ≡ summary_of stop (lines_of (within_limit 0 moves.given)))

-- no more can be read: each line that came with its newline is answered, no answer stopped the run, and nothing else is written
pub record BreaksOff (reader old new : Option (List ℕ)) (stop : Bool) : Type 0 where
  pub moves : Moves reader new old
  pub judged : List (List ℕ)
  pub unfinished : List ℕ
  pub text : within_limit 0 moves.given ≡ with_newlines judged ++ unfinished
  pub lacks : Lacks unfinished
  pub lines : lines_of (within_limit 0 moves.given) ≡ judged ++ lines_of unfinished
  pub counts : Summary
  pub outs : Outs stop new_journal judged moves.out counts
  pub unstopped : was_stopped stop counts ≡ false

-- a write failed: a prefix of the answers to the lines was written, whatever comes after the bytes that were read
pub record WriteFails (reader old new : Option (List ℕ)) (stop : Bool) : Type 0 where
  pub moves : Moves reader new old
  pub begun : (more : List ℕ) → (IsAtEnd moves.left → more ≡ [])
      → (rest : List ℕ) × (counts : Summary) × Outs stop new_journal (lines_of (within_limit 0 moves.given ++ more)) (moves.out ++ rest) counts

-- the bytes that the reader gave end with the one past the limit
abbrev pub IsTooLong : List ℕ → Type 0
IsTooLong given = length given ≡ 67108865

abbrev pub Runs : Option (List ℕ) → Option (List ℕ) → Option (List ℕ) → Bool → Result Summary RunFault → Type 0
Runs reader old new stop (Ok summary) = Served reader old new stop summary
Runs reader old new stop (Err fault.Read) = BreaksOff reader old new stop
Runs reader old new stop (Err fault.TooLong) = (b : BreaksOff reader old new stop) × IsTooLong b.moves.given
Runs reader old new stop (Err fault.Write) = WriteFails reader old new stop
Runs reader old new stop (Err fault.Memory) = (m : Moves reader new old) × (m.given ≡ []) × (m.out ≡ [])
