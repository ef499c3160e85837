-- What a call does to a console: a session, or a draft of its next command, with the answer to the last command.
use Rattle.std.specs.Prelude.{◌≡◌, ℕ, Some}
use Rattle.commands.specs.Telling.{Tells, asked, shown}
use Rattle.call_types.specs.declared.command.{Call.Call, Change.Change, Command.Command, Question.Question}
use Rattle.solid_listing.specs.declared.told.Told.{Told}
use Rattle.commands.specs.declared.stage.Stage.{Stage}
use Rattle.euler_operators.specs.declared.Op.{Op}
use Rattle.undo_journal.specs.Journal.{new_journal}
use Rattle.script_running.specs.declared.script_judging.calls.Console.{Console}

-- a new session, which holds the empty model
abbrev pub IsNew : Console → Type 0
IsNew c = c.stage ≡ Some (Stage.Session new_journal)

-- the call that is an operator
abbrev pub act_of : Op → Call
act_of op = Call.Give (Command.Change (Change.Act op))

-- the last answer after a call that was told this; a call that the session or draft doesn't have, or one that concerns a mark, leaves the answer before
-- it
abbrev pub answer_after : Told → Told → Told
answer_after b Told.InDraft = b
answer_after b Told.NoDraft = b
answer_after b (Told.Steps n) = b
answer_after b a = a

-- what C is told of a call or a line that was told this: 11 of a call that a draft doesn't have, 12 of one that only a draft has
abbrev pub status_of : Told → ℕ
status_of Told.Silent = 0
status_of Told.Done = 1
status_of (Told.Refused r) = 2
status_of (Told.Fault n) = 3
status_of Told.Memory = 4
status_of (Told.Plane p flat) = 5
status_of (Told.Volume n) = 6
status_of (Told.Counts n) = 7
status_of Told.Listing = 8
status_of Told.InDraft = 11
status_of Told.NoDraft = 12
status_of (Told.Steps n) = 0

-- what is asked of a session or draft: a call, or only that an answer be kept
pub data Asked : Type 0 where
  calls : Call → Asked
  keeps : Told → Asked

-- a session or draft g with the last answer b heeds what is asked: it becomes h with the last answer k, and C is told this kind
abbrev pub Heeds : Stage → Told → Asked → Stage → Told → ℕ → Type 0
Heeds g b (calls c) h k kind = (a : Told) × Tells g c a h × (k ≡ answer_after b a) × (kind ≡ status_of a)
Heeds g b (keeps a) h k kind = (h ≡ g) × (k ≡ a) × (kind ≡ status_of a)

-- the session or draft of a console heeds what is asked
unfoldable pub ConsoleHeeds : Console → Asked → Console → ℕ → Type 0
ConsoleHeeds old q new kind = (g : Stage) → old.stage ≡ Some g → (h : Stage) × (new.stage ≡ Some h) × Heeds g old.answer q h new.answer kind

-- a question is answered for the model shown, and nothing is kept
abbrev pub Measures : Console → Question → Told → Type 0
Measures c q a = (g : Stage) → c.stage ≡ Some g → a ≡ asked (shown g) q
