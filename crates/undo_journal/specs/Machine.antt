-- The plain machine: it keeps a whole copy of every model.
use Rattle.std.specs.Prelude.{ℕ, List, [], ◌∷◌, length, nat_eq, Option, refl}
use Rattle.euler_operators.specs.Common.{Model, empty_model, first_false, first_refusal, never, effect}
use Rattle.low_euler.specs.Codes.{coded_model}
use Rattle.euler_operators.specs.declared.Op.{Op}
use Rattle.euler_operators.specs.declared.Why.TheVariants.{NothingToUndo, NothingToRedo}
use Rattle.euler_operators.specs.declared.Refusal.{Refusal}
use Rattle.std.specs.Coded.{Coded, code_by, coded×, coded_list}

-- the model held, the models behind it, and the models ahead of it; of both the nearest comes first
pub record Machine : Type 0 where
  pub past : List Model
  pub present : Model
  pub future : List Model

-- the machine starts with the empty model alone
abbrev pub start : Machine
start = record { past = []; present = empty_model; future = [] }

-- the model held
abbrev pub held : Machine → Model
held s = s.present

-- how many commands can be undone, and how many redone
abbrev pub depth : Machine → ℕ
depth s = length s.past

abbrev pub ahead : Machine → ℕ
ahead s = length s.future

-- an accepted command drops the models ahead; the model that it makes is then held
abbrev pub accepted : Machine → Model → Machine
accepted s N = record { past = s.present ∷ s.past; present = N; future = [] }

-- an operator is refused by its first false condition, and otherwise makes its effect
abbrev pub act_refusal : Machine → Op → Option Refusal
act_refusal s op = first_false (held s) op

abbrev pub act : Machine → Op → Machine
act s op = accepted s (effect (held s) op)

-- undo is refused only at the first model, and redo only at the last
abbrev pub undo_refusal : Machine → Option Refusal
undo_refusal s = first_refusal (never (nat_eq (depth s) 0) NothingToUndo 0 ∷ [])

abbrev pub redo_refusal : Machine → Option Refusal
redo_refusal s = first_refusal (never (nat_eq (ahead s) 0) NothingToRedo 0 ∷ [])

-- to the nearest model behind, or the nearest ahead; if there is none, the machine stays as it is
abbrev pub back_to : List Model → Machine → Machine
back_to [] s = s
back_to (M ∷ Ms) s = record { past = Ms; present = M; future = s.present ∷ s.future }

abbrev pub forth_to : List Model → Machine → Machine
forth_to [] s = s
forth_to (M ∷ Ms) s = record { past = s.present ∷ s.past; present = M; future = Ms }

abbrev pub undo : Machine → Machine
undo s = back_to s.past s

abbrev pub redo : Machine → Machine
redo s = forth_to s.future s

-- what a draft holds: the machine as it was when the draft was opened, and a model
pub record DraftState : Type 0 where
  pub session : Machine
  pub model : Model

abbrev pub open_draft : Machine → DraftState
open_draft s = record { session = s; model = held s }

-- a step changes only the draft's model
abbrev pub draft_step : DraftState → Op → DraftState
draft_step d op = record d { model = effect d.model op }

-- the steps become one command, even if there are none
abbrev pub commit : DraftState → Machine
commit d = accepted d.session d.model

abbrev pub abandon : DraftState → Machine
abandon d = d.session

-- a code, through which contracts see the machine of a session
abbrev pub coded_machine : Coded Machine
coded_machine = code_by (List Model × (Model × List Model)) (coded× (coded_list coded_model) (coded× coded_model (coded_list coded_model))) (λ s. (s.past, (s.present, s.future))) (λ t. record { past = t.0; present = t.1.0; future = t.1.1 }) (λ _. refl)
