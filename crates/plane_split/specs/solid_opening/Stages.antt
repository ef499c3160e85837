-- When a solid can be opened along a cycle, in the form that the code asks for, and the model after the strips of the cycle are cut off.
use Rattle.std.specs.Prelude.{◌≡◌, ℕ, List, length}
use Rattle.euler_operators.specs.Common.{Model}
use Rattle.shapes.specs.Common.{Taken}
use Rattle.split_opening_laws.specs.strips.Strips.{strips_cut}
use Rattle.split_opening_laws.specs.strips.Opened.{CanBeOpened}

-- solid s can be opened along the cycle bs
abbrev pub CanOpen : Model → ℕ → Taken → List ℕ → Type 0
CanOpen M s c bs = (above : List ℕ) × CanBeOpened M above s c bs

-- N is a model in which solid s could be opened along bs, with all strips of the cycle cut off
pub record AreStripped (N : Model) (s : ℕ) (c : Taken) (bs : List ℕ) : Type 0 where
  pub before : Model
  pub above : List ℕ
  pub can : CanBeOpened before above s c bs
  pub model : N ≡ strips_cut before s c bs (length bs)
