-- The room that an operator needs.
use Rattle.std.specs.Prelude.{◌≡◌, ℕ, true, List, [], ◌∷◌}
use Rattle.euler_operators.specs.Common.{Kind, Model, faces_of, is_number, effect, inverse}
use Rattle.euler_operators.specs.declared.Op.{Op}
use Rattle.euler_operators.specs.declared.Op.TheVariants as op
use Rattle.euler_conditions.specs.Store.{Store, has_room}
use Rattle.euler_conditions.specs.Ready.{IsReady, HasRoomFor}

-- each of some numbers lies in the range of numbers
abbrev pub AllFit : List (Kind × ℕ) → Type 0
AllFit [] = Unit {0}
AllFit (k ∷ ks) = (is_number k.1 ≡ true) × AllFit ks

-- the faces that an operator moves from one solid to another, if its inverse has to list them
abbrev pub faces_for : Model → Op → List ℕ
faces_for M (op.Merge s t) = faces_of M t
faces_for M o = []

-- each number that had its room still has it
abbrev pub KeepsRoom : Store → Store → Type 0
KeepsRoom old new = (kind : Kind) (n : ℕ) → has_room old kind n ≡ true → has_room new kind n ≡ true

-- the arena after an operator whose room was made: each number that the operator or its inverse makes has its room
pub record IsStepped (old : Store) (o : Op) (new : Store) : Type 0 where
  pub model : new.model ≡ effect old.model o
  pub ready : IsReady new
  pub kept : KeepsRoom old new
  pub room : HasRoomFor new o
  pub inverse_room : HasRoomFor new (inverse old.model o)
