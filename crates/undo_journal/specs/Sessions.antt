-- What a session and a draft hold: one arena, the records of the commands, and a place in their list.
use Rattle.std.specs.Prelude.{◌≡◌, ℕ, ◌≤◌, List, [], ◌∷◌, length, take, drop, reverse}
use Rattle.euler_operators.specs.Common.{Model, empty_model}
use Rattle.low_euler.specs.Store.{Store}
use Rattle.euler_operators.specs.declared.Op.{Op}
use Rattle.euler_laws.specs.Laws.{effects, AreAccepted}
use Rattle.low_euler.specs.Ready.{IsReady, HasRoomFor}
use Rattle.undo_journal.specs.Records.{Record}
use Rattle.undo_journal.specs.Machine.{Machine}
use Rattle.undo_journal.specs.Journal.{Journal, DraftJournal, each_inverse}

-- the models behind M, the nearest first: the records that lead to M are taken back, the last one first
abbrev pub models_back : Model → List Record → List Model
models_back M [] = []
models_back M (r ∷ rs) = effects M r.back ∷ models_back (effects M r.back) rs

-- the models ahead of M, one after each record
abbrev pub models_ahead : Model → List Record → List Model
models_ahead M [] = []
models_ahead M (r ∷ rs) = effects M r.forward ∷ models_ahead (effects M r.forward) rs

-- the models behind M, to which the records before the place lead back, and those ahead of it, to which the others lead
unfoldable pub past_of : Model → List Record → ℕ → List Model
past_of M records place = models_back M (reverse (take place records))

unfoldable pub future_of : Model → List Record → ℕ → List Model
future_of M records place = models_ahead M (drop place records)

-- the machine for which the model held, the records and the place stand
abbrev pub machine_of : Model → List Record → ℕ → Machine
machine_of M records place = record { past = past_of M records place; present = M; future = future_of M records place }

abbrev pub journal_of : Model → List Record → ℕ → Journal
journal_of M records place = record { machine = machine_of M records place; records = records }

-- the record takes M to N, and back; each operator is accepted in its turn
pub record LeadsBothWays (M : Model) (r : Record) (N : Model) : Type 0 where
  pub forward_goes : AreAccepted M r.forward
  pub forward : effects M r.forward ≡ N
  pub back_goes : AreAccepted N r.back
  pub back : effects N r.back ≡ M

-- each record leads from the model before it to the model after it; the model before the first record is A
abbrev pub AllLead : Model → List Record → Type 0
AllLead A [] = Unit {0}
AllLead A (r ∷ rs) = LeadsBothWays A r (effects A r.forward) × AllLead (effects A r.forward) rs

-- the model to which some records lead from A
abbrev pub gone_forth : Model → List Record → Model
gone_forth A [] = A
gone_forth A (r ∷ rs) = gone_forth (effects A r.forward) rs

-- the records lead on from the empty model; those before the place lead to M
pub record IsJournal (M : Model) (records : List Record) (place : ℕ) : Type 0 where
  pub placed : place ≤ length records
  pub lead : AllLead empty_model records
  pub held : M ≡ gone_forth empty_model (take place records)

-- each number that one of the operators makes has its room
abbrev pub AllHaveRoom : Store → List Op → Type 0
AllHaveRoom s [] = Unit {0}
AllHaveRoom s (o ∷ os) = HasRoomFor s o × AllHaveRoom s os

-- each number that an operator of a record makes has its room
abbrev pub RecordsHaveRoom : Store → List Record → Type 0
RecordsHaveRoom s [] = Unit {0}
RecordsHaveRoom s (r ∷ rs) = AllHaveRoom s r.forward × AllHaveRoom s r.back × RecordsHaveRoom s rs

-- what holds of a session
pub record IsKept (s : Store) (records : List Record) (place : ℕ) : Type 0 where
  pub ready : IsReady s
  pub journal : IsJournal s.model records place
  pub room : RecordsHaveRoom s records

-- the model with which a draft started; `back` holds the inverses of its steps in their order
abbrev pub opened : Model → List Op → Model
opened M back = effects M (reverse back)

abbrev pub draft_of : Model → List Record → ℕ → List Op → List Op → DraftJournal
draft_of M records place forward back = record { session = journal_of (opened M back) records place; model = M; forward = forward; back = back }

-- the command that the steps of a draft make
abbrev pub command_of : List Op → List Op → Record
command_of forward back = record { forward = forward; back = reverse back }

-- what holds of a draft
pub record IsDrafted (s : Store) (records : List Record) (place : ℕ) (forward back : List Op) : Type 0 where
  pub ready : IsReady s
  pub journal : IsJournal (opened s.model back) records place
  pub leads : LeadsBothWays (opened s.model back) (command_of forward back) s.model
  pub paired : back ≡ each_inverse (opened s.model back) forward
  pub room : RecordsHaveRoom s records
  pub forward_room : AllHaveRoom s forward
  pub back_room : AllHaveRoom s back

-- the arena after operators: its model is their effect, and nothing else has changed
abbrev pub all_after : Store → List Op → Store
all_after s ops = record s { model = effects s.model ops }
