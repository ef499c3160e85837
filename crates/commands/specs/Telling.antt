-- How a call of a session, or of a draft of its next command, is answered, and to what it leads.
use Rattle.std.specs.Prelude.{◌≡◌, ◌⊎◌, ℕ, length, Option, Some, None, Result, Ok, Err}
use Rattle.solid_measure.specs.Measure.{answer, face_refusal, solid_refusal, plane_of, is_flat, six_volume, counts}
use Rattle.commands.specs.Common.{Call, Change, Command, Done, DraftJournal, Drafting, Failure, InDraft, IsConsistent, IsFurther, IsMark, Journal, Memory, Model, NoDraft, OpenDraft, Question, Refusal, Refused, Session, Sound, Stage, Told, accepted, after_commit, after_redo, after_steps, after_undo, ahead, back_at, depth, held, new_draft, record_of, recorded, redo_refusal, undo_refusal}
use Rattle.call_types.specs.declared.command.Call.TheVariants as call
use Rattle.call_types.specs.declared.command.Command.TheVariants as command
use Rattle.undo_journal.specs.declared.session.Failure.TheVariants as failure
use Rattle.call_types.specs.declared.command.Question.TheVariants as question
use Rattle.solid_listing.specs.declared.told.Told.TheVariants as told
use Rattle.commands.specs.Changes.{refusal_of, made, operators_of, MayLack}

-- the answer to a change that ended with this result
abbrev pub told_of : Result (Unit {0}) Failure → Told
told_of (Ok _) = Done
told_of (Err (failure.Refused r)) = Refused r
told_of (Err (failure.Memory e)) = Memory

-- the answer to an undo or redo that ended with this result
abbrev pub told_of_move : Result (Unit {0}) Refusal → Told
told_of_move (Ok _) = Done
told_of_move (Err r) = Refused r

-- the answer to a question about a model: a value, or a refusal
abbrev pub answer_to : Model → Question → Result Told Refusal
answer_to M (question.Plane f) = answer (face_refusal M f) (told.Plane (plane_of M f) (is_flat M f))
answer_to M (question.Volume n) = answer (solid_refusal M n) (told.Volume (six_volume M n))
answer_to M (question.Count n) = answer (solid_refusal M n) (told.Counts (counts M n))

abbrev pub value_or_refusal : Result Told Refusal → Told
value_or_refusal (Ok a) = a
value_or_refusal (Err r) = Refused r

abbrev pub asked : Model → Question → Told
asked M q = value_or_refusal (answer_to M q)

-- a command is done, if nothing refuses it; or its first false condition is named; or it is said that memory was refused
abbrev pub Settled : Option Refusal → (Lacks Stays Goes : Type 0) → Told → Type 0
Settled o Lacks Stays Goes Done = (o ≡ None) × Goes
Settled o Lacks Stays Goes (Refused r) = (o ≡ Some r) × Stays
Settled o Lacks Stays Goes Memory = Lacks × Stays
Settled o Lacks Stays Goes a = ⊥

-- an accepted change leaves one record: that of its operators
abbrev pub LeavesRecord : Journal → Change → Journal → Type 0
LeavesRecord s c t = t.records ≡ recorded s (record_of (held s.machine) (operators_of (held s.machine) c))

-- in a draft it takes further steps: its operators
abbrev pub TakesSteps : DraftJournal → Change → DraftJournal → Type 0
TakesSteps d c e = IsFurther d e × (e ≡ after_steps d (operators_of d.model c))

-- a session may give this answer to a command and become t; a command that isn't done leaves the session as it was, with its records
abbrev pub TellsSession : Journal → Command → Told → Journal → Type 0
TellsSession s (command.Change c) a t =
    Settled (refusal_of (held s.machine) c) (MayLack (held s.machine) c) (t ≡ s) ((t.machine ≡ accepted s.machine (made (held s.machine) c)) × LeavesRecord s c t) a
TellsSession s (command.Ask q) a t = (a ≡ asked (held s.machine) q) × (t ≡ s)
TellsSession s command.Undo a t = Settled (undo_refusal s.machine) ⊥ (t ≡ s) (t ≡ after_undo s) a
TellsSession s command.Redo a t = Settled (redo_refusal s.machine) ⊥ (t ≡ s) (t ≡ after_redo s) a

-- a draft may give this answer to a command and become e; a change is made as further steps; a draft has no undo and no redo
abbrev pub TellsDraft : DraftJournal → Command → Told → DraftJournal → Type 0
TellsDraft d (command.Change c) a e = Settled (refusal_of d.model c) (MayLack d.model c) (e ≡ d) ((e.model ≡ made d.model c) × TakesSteps d c e) a
TellsDraft d (command.Ask q) a e = (a ≡ asked d.model q) × (e ≡ d)
TellsDraft d command.Undo a e = (a ≡ InDraft) × (e ≡ d)
TellsDraft d command.Redo a e = (a ≡ InDraft) × (e ≡ d)

-- a session, or a draft of its next command, may give this answer to a call and become h
abbrev pub Tells : Stage → Call → Told → Stage → Type 0
Tells (Session s) (call.Give c) a h = (t : Journal) × (h ≡ Session t) × TellsSession s c a t
Tells (Session s) call.Open a h = ((a ≡ Done) × (h ≡ Drafting (record { draft = new_draft s }))) ⊎ ((a ≡ Memory) × (h ≡ Session s))
Tells (Session s) c a h = (a ≡ NoDraft) × (h ≡ Session s)
Tells (Drafting d) (call.Give c) a h = (e : OpenDraft) × (h ≡ Drafting e) × TellsDraft d.draft c a e.draft
Tells (Drafting d) call.Open a h = (a ≡ InDraft) × (h ≡ Drafting d)
Tells (Drafting d) call.Mark a h = (n : ℕ) × (a ≡ told.Steps n) × IsMark d.draft n × (h ≡ Drafting d)
Tells (Drafting d) (call.Back n) a h = (a ≡ Done) × (h ≡ Drafting (record { draft = back_at d.draft n }))
Tells (Drafting d) call.Commit a h = (a ≡ Done) × (h ≡ Session (after_commit d.draft))
Tells (Drafting d) call.Abandon a h = (a ≡ Done) × (h ≡ Session d.draft.session)

-- the model shown: the one that the session holds, or the draft's
abbrev pub shown : Stage → Model
shown (Session s) = held s.machine
shown (Drafting d) = d.draft.model

-- every model of the session is sound, and so is the draft's; the draft's steps, each accepted in its turn, make it from a new draft
abbrev pub IsWhole : Stage → Type 0
IsWhole (Session s) = IsConsistent s.machine
IsWhole (Drafting d) = IsConsistent d.draft.session.machine × Sound d.draft.model × IsFurther (new_draft d.draft.session) d.draft

-- how many commands can be undone, and how many redone; in a draft there are none
abbrev pub undos : Stage → ℕ
undos (Session s) = depth s.machine
undos (Drafting d) = 0

abbrev pub redos : Stage → ℕ
redos (Session s) = ahead s.machine
redos (Drafting d) = 0

-- how many steps a draft has
abbrev pub steps_in : Stage → ℕ
steps_in (Session s) = 0
steps_in (Drafting d) = length d.draft.forward
