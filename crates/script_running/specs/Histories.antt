-- The history of a run: each line is one call of it.
use Rattle.std.specs.Prelude.{◌≡◌, ◌≢◌, ℕ, Bool, List, [], ◌∷◌, ◌++◌, length, Option, Result, Ok, Err, IfOk}
use Rattle.script_running.specs.Common.{Told, Call, IsCall, IsConsistent, Journal, Listing, Machine, Model, RunFault, Sound, Summary, after_call, held, lines_of, listing, new_journal, reached, within_limit}
use Rattle.script_running.specs.script_judging.Judging.{Judges, answer_text}
use Rattle.script_running.specs.Runs.{Moves, Runs}
use Rattle.script_running.specs.declared.running.RunFault.TheVariants as fault

-- some list of calls leads from the empty model to s
pub record HasHistory (s : Machine) : Type 0 where
  pub calls : List Call
  pub lead : reached calls ≡ s

-- if the model held is sound, a line is a call, whatever it is answered
abbrev pub LinesAreCalls : Type 0
LinesAreCalls = (s t : Journal) (line : List ℕ) (a : Told) → Sound (held s.machine) → Judges s line a t → IsCall s.machine t.machine

-- so a line leads from a machine that has a history to one that has a history
abbrev pub LinesLeadOn : Type 0
LinesLeadOn = (s t : Journal) (line : List ℕ) (a : Told) → HasHistory s.machine → Judges s line a t → HasHistory t.machine

-- and a machine that has a history is consistent
abbrev pub HistoriesMakeConsistent : Type 0
HistoriesMakeConsistent = (s : Machine) → HasHistory s → IsConsistent s

-- what a line comes to: a call, its answer, and the session after it
pub record Turn : Type 0 where
  pub call : Call
  pub answer : Told
  pub next : Journal

-- the text lists a sound model
abbrev pub ListsSound : List ℕ → Type 0
ListsSound text = (M : Model) × Sound M × (text ≡ listing M)

-- a line is judged in one session and leads to another, and both are consistent; if the answer is a listing, it lists a sound model
pub record IsTurn (s : Journal) (line : List ℕ) (turn : Turn) : Type 0 where
  pub judged : Judges s line turn.answer turn.next
  pub called : after_call s.machine turn.call ≡ turn.next.machine
  pub before : IsConsistent s.machine
  pub after : IsConsistent turn.next.machine
  pub listed : turn.answer ≡ Listing → ListsSound (answer_text turn.next.machine turn.answer)

-- the first lines take these turns, each in the session to which the one before it leads
abbrev pub TakeTurns : Journal → List (List ℕ) → List Turn → Type 0
TakeTurns s lines [] = Unit {0}
TakeTurns s [] (turn ∷ turns) = ⊥
TakeTurns s (line ∷ lines) (turn ∷ turns) = IsTurn s line turn × TakeTurns turn.next lines turns

-- the texts of their answers
abbrev pub texts : List Turn → List ℕ
texts [] = []
texts (turn ∷ turns) = answer_text turn.next.machine turn.answer ++ texts turns

-- what a run read and wrote
abbrev pub moves_of : (reader old new : Option (List ℕ)) (stop : Bool) (result : Result Summary RunFault) → Runs reader old new stop result → Moves reader new old
moves_of reader old new stop (Ok summary) run = run.moves
moves_of reader old new stop (Err fault.Read) run = run.moves
moves_of reader old new stop (Err fault.TooLong) run = run.0.moves
moves_of reader old new stop (Err fault.Write) run = run.moves
moves_of reader old new stop (Err fault.Memory) run = run.0

-- The text written is the answers to the first lines read, each in its turn from the empty model on, or, if a write failed, a prefix of them. If the
-- run ended well, each line that it counts took its turn.
pub record TellsHistory (reader old new : Option (List ℕ)) (moved : Moves reader new old) (result : Result Summary RunFault) : Type 0 where
  pub turns : List Turn
  pub taken : TakeTurns new_journal (lines_of (within_limit 0 moved.given)) turns
  pub unwritten : List ℕ
  pub text : texts turns ≡ moved.out ++ unwritten
  pub whole : result ≢ Err fault.Write → unwritten ≡ []
  pub each : IfOk result (λ summary. length turns ≡ summary.lines)

-- whatever a run returns, it has a history
abbrev pub RunsTellHistories : Type 0
RunsTellHistories = (reader old new : Option (List ℕ)) (stop : Bool) (result : Result Summary RunFault) (run : Runs reader old new stop result)
    → TellsHistory reader old new (moves_of reader old new stop result run) result
