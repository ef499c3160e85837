-- What a run has handed on before each read, and when it ends.
use Rattle.std.specs.Prelude.{◌≡◌, ⊤, ℕ, Bool, false, List, ◌++◌, Option, Result, Ok, Err}
use Rattle.std.specs.Io.KnownBytes.{Appends, Consumes}
use Rattle.script_reader.specs.Reaching.{Reaches}
use Rattle.script_running.specs.Common.{Lacks, RunFault, Summary, new_journal, with_newlines}
use Rattle.script_running.specs.Outs.{Outs, was_stopped}
use Rattle.script_running.specs.declared.running.RunFault.TheVariants as fault

-- all answers were handed on, unless a write failed or nothing was begun
abbrev pub HandsOn : Option (List ℕ) → Option (List ℕ) → Result Summary RunFault → Type 0
HandsOn reached contents (Err fault.Write) = ⊤
HandsOn reached contents (Err fault.Memory) = ⊤
HandsOn reached contents r = Reaches reached contents

-- these bytes are whole lines and an unfinished one, and this text answers all the whole lines, of which none stops the run
pub record AnswersWhole (stop : Bool) (given out : List ℕ) : Type 0 where
  pub judged : List (List ℕ)
  pub unfinished : List ℕ
  pub text : given ≡ with_newlines judged ++ unfinished
  pub lacks : Lacks unfinished
  pub counts : Summary
  pub outs : Outs stop new_journal judged out counts
  pub unstopped : was_stopped stop counts ≡ false

-- Wherever its reads have led, a reader asks for no more than that all whole lines given so far were answered, and the answers written and handed on.
abbrev pub AsksAnswers : {R : Type 0} → (remaining : R → Option (List ℕ)) (asks : R → Option (List ℕ) → Type 0) → R → Option (List ℕ) → Bool → Type 0
AsksAnswers {R} remaining asks reader old stop = (now : R) (given out : List ℕ) (contents : Option (List ℕ)) → Consumes (remaining reader) (remaining now) given → Appends old contents out → AnswersWhole stop given out → asks now contents
