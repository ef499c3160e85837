-- Histories: lists of calls of a session, and the machine to which they lead.
use Rattle.std.specs.Prelude.{◌≡◌, ℕ, zero, suc, ◌+◌, ◌<◌, ◌≤◌, List, [], ◌∷◌, Option, Some, None}
use Rattle.euler_operators.specs.Common.{Model, empty_model, Sound, first_false, effect}
use Rattle.euler_operators.specs.declared.Op.{Op}
use Rattle.euler_operators.specs.declared.Refusal.{Refusal}
use Rattle.euler_laws.specs.Laws.{effects, AreAccepted}
use Rattle.undo_journal.specs.Machine.{Machine, DraftState, start, held, depth, ahead, accepted, act, act_refusal, undo, redo, open_draft, draft_step, commit, abandon}
use Rattle.undo_journal.specs.Recorded.{model_at}

-- a call of a session
pub data Call : Type 0 where
  -- an operator as a command, accepted or refused
  acted : Op → Call
  -- a larger command: the operators that make its model, each accepted in its turn
  made : List Op → Call
  -- a draft in which some operators were tried as steps, each accepted or refused; the draft was committed, or abandoned
  committed : List Op → Call
  abandoned : List Op → Call
  -- undo and redo, accepted or refused
  undone : Call
  redone : Call
  -- a larger command that was refused, or a call for which memory was refused
  stopped : Call

-- the new value if there is no refusal, otherwise the old one
abbrev pub unless : {X : Type 0} → Option Refusal → X → X → X
unless None new old = new
unless (Some r) new old = old

-- the first refusal of some operators, each tried after those before it
abbrev pub first_of : Option Refusal → Option Refusal → Option Refusal
first_of None later = later
first_of (Some r) later = Some r

abbrev pub run_refusal : Model → List Op → Option Refusal
run_refusal M [] = None
run_refusal M (op ∷ ops) = first_of (first_false M op) (run_refusal (effect M op) ops)

-- a draft after some operators were tried as steps
abbrev pub tried : DraftState → List Op → DraftState
tried d [] = d
tried d (op ∷ ops) = tried (unless (first_false d.model op) (draft_step d op) d) ops

-- the machine after a call
abbrev pub after_call : Machine → Call → Machine
after_call s (acted op) = unless (act_refusal s op) (act s op) s
after_call s (made ops) = unless (run_refusal (held s) ops) (accepted s (effects (held s) ops)) s
after_call s (committed ops) = commit (tried (open_draft s) ops)
after_call s (abandoned ops) = abandon (tried (open_draft s) ops)
after_call s undone = undo s
after_call s redone = redo s
after_call s stopped = s

-- the machine after a list of calls
abbrev pub after_calls : Machine → List Call → Machine
after_calls s [] = s
after_calls s (call ∷ calls) = after_calls (after_call s call) calls

-- the machine to which a history leads
abbrev pub reached : List Call → Machine
reached calls = after_calls start calls

-- undo and redo, several times
abbrev pub undos : ℕ → Machine → Machine
undos zero s = s
undos (suc n) s = undos n (undo s)

abbrev pub redos : ℕ → Machine → Machine
redos zero s = s
redos (suc n) s = redos n (redo s)

-- some operators, each accepted in its turn, make N from M
pub record Follows (M N : Model) : Type 0 where
  pub operators : List Op
  pub are_accepted : AreAccepted M operators
  pub make : effects M operators ≡ N

-- the first model is the empty one, each model is sound, and accepted operators make each next one; as many undos as can be made lead to
-- the first model, and as many redos to the last one
pub record IsConsistent (s : Machine) : Type 0 where
  pub first : model_at s 0 ≡ empty_model
  pub sound : (i : ℕ) → i ≤ depth s + ahead s → Sound (model_at s i)
  pub linked : (i : ℕ) → i < depth s + ahead s → Follows (model_at s i) (model_at s (i + 1))
  pub held_sound : Sound (held s)
  pub undone : held (undos (depth s) s) ≡ empty_model
  pub redone : held (redos (ahead s) s) ≡ model_at s (depth s + ahead s)
