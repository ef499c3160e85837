-- Faces of a solid that become a solid of their own.
use Rattle.std.specs.Prelude.{◌≡◌, ℕ, List, get_or, Option, Some, None}
use Rattle.euler_operators.specs.Common.{empty_model}
use Rattle.session_slots.specs.Common.Below.{Told, Asked, Op, Refusal, Model, solid_of, face_refusal, Tells, act_of, calls, keeps, shown, Stage}

-- the operator that makes solid t of the faces: they leave the solid of the first one
abbrev pub part_of : Model → List ℕ → ℕ → Op
part_of M fs t = Op.Part (solid_of M (get_or fs 0 0)) t fs

-- an operator is asked for, if nothing refuses it before
abbrev pub asked_unless : Option Refusal → Op → Asked
asked_unless None op = calls (act_of op)
asked_unless (Some r) op = keeps (Told.Refused r)

-- refused if the first one is no face; else the operator is called
abbrev pub Moves_faces : Option Refusal → Stage → Op → Told → Stage → Type 0
Moves_faces (Some r) g op a h = (a ≡ Told.Refused r) × (h ≡ g)
Moves_faces None g op a h = Tells g (act_of op) a h

-- the model shown; where there is no session and no draft, the empty one
abbrev pub model_in : Option Stage → Model
model_in None = empty_model
model_in (Some g) = shown g

-- faces ask for that operator, if the first of them is a face
abbrev pub part_asked : Option Stage → List ℕ → ℕ → Asked
part_asked o fs t = asked_unless (face_refusal (model_in o) (get_or fs 0 0)) (part_of (model_in o) fs t)
