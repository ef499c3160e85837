-- What contracts see of a session and a draft: the plain machine, and the records of its commands.
use Rattle.std.specs.Prelude.{◌≡◌, ℕ, List, [], ◌∷◌, ◌++◌, length, take, reverse, refl}
use Rattle.std.specs.Coded.{Coded, code_by, coded×, coded_list}
use Rattle.euler_operators.specs.contracts.Op as operator
use Rattle.euler_operators.specs.declared.Op.{Op}
use Rattle.euler_operators.specs.Common.{Model, effect, inverse}
use Rattle.euler_laws.specs.Laws.{effects, AreAccepted}
use Rattle.low_euler.specs.Codes.{coded_model}
use Rattle.undo_journal.specs.Records.{Record, coded_record}
use Rattle.undo_journal.specs.Machine.{Machine, DraftState, start, held, depth, act, undo, redo, draft_step, commit, coded_machine}

-- the machine, and the records of all commands in their order, with those of the commands ahead
pub record Journal : Type 0 where
  pub machine : Machine
  pub records : List Record

abbrev pub new_journal : Journal
new_journal = record { machine = start; records = [] }

-- the records after a command: its own replaces those ahead
abbrev pub recorded : Journal → Record → List Record
recorded j r = take (depth j.machine) j.records ++ r ∷ []

-- an accepted operator leaves a record of itself and its inverse
abbrev pub after_act : Journal → Op → Journal
after_act j op = record { machine = act j.machine op; records = recorded j (record { forward = op ∷ []; back = inverse (held j.machine) op ∷ [] }) }

-- undo and redo keep all records
abbrev pub after_undo : Journal → Journal
after_undo j = record { machine = undo j.machine; records = j.records }

abbrev pub after_redo : Journal → Journal
after_redo j = record { machine = redo j.machine; records = j.records }

-- a command was accepted, and has left one record
pub record IsRecorded (old new : Journal) : Type 0 where
  pub command : Record
  pub appended : new.records ≡ recorded old command

-- the session as it was when the draft was opened, the draft's model, the steps that lead to it, and the inverse of each step
pub record DraftJournal : Type 0 where
  pub session : Journal
  pub model : Model
  pub forward : List Op
  pub back : List Op

-- the draft of the plain machine
abbrev pub plain : DraftJournal → DraftState
plain d = record { session = d.session.machine; model = d.model }

abbrev pub new_draft : Journal → DraftJournal
new_draft j = record { session = j; model = held j.machine; forward = []; back = [] }

-- one step more, and its inverse
abbrev pub after_step : DraftJournal → Op → DraftJournal
after_step d op = record { session = d.session; model = (draft_step (plain d) op).model; forward = d.forward ++ op ∷ []; back = d.back ++ inverse d.model op ∷ [] }

-- the steps become one command, even if there are none; their inverses, the last one first, take it back
abbrev pub after_commit : DraftJournal → Journal
after_commit d = record { machine = commit (plain d); records = recorded d.session (record { forward = d.forward; back = reverse d.back }) }

-- a mark is the number of steps, each with its inverse; the steps make the draft's model from the one that the session holds
pub record IsMark (d : DraftJournal) (mark : ℕ) : Type 0 where
  pub steps : mark ≡ length d.forward
  pub inverses : mark ≡ length d.back
  pub model : d.model ≡ effects (held d.session.machine) d.forward

-- the inverse of each of some operators, in their order
abbrev pub each_inverse : Model → List Op → List Op
each_inverse M [] = []
each_inverse M (o ∷ os) = inverse M o ∷ each_inverse (effect M o) os

-- the record of a command that some operators make from M on: they lead forward, and their inverses, the last one first, lead back
abbrev pub record_of : Model → List Op → Record
record_of M ops = record { forward = ops; back = reverse (each_inverse M ops) }

-- the draft after some further steps, each with its inverse
abbrev pub after_steps : DraftJournal → List Op → DraftJournal
after_steps d ops = record { session = d.session; model = effects d.model ops; forward = d.forward ++ ops; back = d.back ++ each_inverse d.model ops }

-- the new draft is the old one, or the old one after further steps, each accepted in its turn
unfoldable pub IsFurther : DraftJournal → DraftJournal → Type 0
IsFurther old new = (ops : List Op) × AreAccepted old.model ops × (new ≡ after_steps old ops)

-- the draft with its first steps only
abbrev pub back_at : DraftJournal → ℕ → DraftJournal
back_at d mark = record { session = d.session; model = effects (held d.session.machine) (take mark d.forward); forward = take mark d.forward; back = take mark d.back }

-- codes, through which contracts see a session and a draft
abbrev pub coded_journal : Coded Journal
coded_journal = code_by (Machine × List Record) (coded× coded_machine (coded_list coded_record)) (λ j. (j.machine, j.records)) (λ t. record { machine = t.0; records = t.1 }) (λ _. refl)

abbrev pub coded_draft_journal : Coded DraftJournal
coded_draft_journal = code_by (Journal × (Model × (List Op × List Op)))
    (coded× coded_journal (coded× coded_model (coded× (coded_list (operator.the_row).coded) (coded_list (operator.the_row).coded))))
    (λ d. (d.session, (d.model, (d.forward, d.back)))) (λ t. record { session = t.0; model = t.1.0; forward = t.1.1.0; back = t.1.1.1 }) (λ _. refl)
