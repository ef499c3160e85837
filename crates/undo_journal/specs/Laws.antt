-- The laws of the plain machine.
use Rattle.std.specs.Prelude.{◌≡◌, ◌+◌, ◌-◌, ◌<◌, List, [], ◌∷◌, ◌++◌, length, take, None}
use Rattle.euler_operators.specs.Common.{Model}
use Rattle.euler_operators.specs.declared.Op.{Op}
use Rattle.euler_laws.specs.Laws.{effects, AreAccepted}
use Rattle.undo_journal.specs.Machine.{Machine, held, depth, ahead, accepted, undo, undo_refusal, redo, redo_refusal}
use Rattle.undo_journal.specs.Recorded.{models, model_at}
use Rattle.undo_journal.specs.Histories.{Call, made, after_call, reached, IsConsistent}

-- the machine is a list of copies and a place in it: the model held is the one at the place
abbrev pub HeldIsAtThePlace : Type 0
HeldIsAtThePlace = (s : Machine) → (model_at s (depth s) ≡ held s) × (length (models s) ≡ depth s + 1 + ahead s)

-- an accepted command drops the copies after the place, and appends one
abbrev pub AcceptedIsAppended : Type 0
AcceptedIsAppended = (s : Machine) (N : Model) → (models (accepted s N) ≡ take (depth s + 1) (models s) ++ N ∷ []) × (depth (accepted s N) ≡ depth s + 1)

-- undo and redo move the place
abbrev pub UndoMovesThePlace : Type 0
UndoMovesThePlace = (s : Machine) → (models (undo s) ≡ models s) × (depth (undo s) ≡ depth s - 1)

abbrev pub RedoMovesThePlace : Type 0
RedoMovesThePlace = (s : Machine) → (models (redo s) ≡ models s) × (0 < ahead s → depth (redo s) ≡ depth s + 1)

-- after an accepted command undo isn't refused and gives the machine's model before, and a redo after that gives the machine after
abbrev pub UndoGivesTheModelBefore : Type 0
UndoGivesTheModelBefore = (s : Machine) (N : Model) → (undo_refusal (accepted s N) ≡ None) × (held (undo (accepted s N)) ≡ held s) × (redo_refusal (undo (accepted s N)) ≡ None) × (redo (undo (accepted s N)) ≡ accepted s N)

-- if accepted operators make the model of a larger command, it is a call of a history
abbrev pub LargerCommandsAreCalls : Type 0
LargerCommandsAreCalls = (s : Machine) (ops : List Op) → AreAccepted (held s) ops → after_call s (made ops) ≡ accepted s (effects (held s) ops)

-- every machine to which a history leads is consistent
abbrev pub HistoriesAreConsistent : Type 0
HistoriesAreConsistent = (calls : List Call) → IsConsistent (reached calls)
