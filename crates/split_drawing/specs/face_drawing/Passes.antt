-- When the two passes over the pairs of a face can go on.
use Rattle.std.specs.Prelude.{ℕ, List}
use Rattle.euler_operators.specs.Common.{Model, Sound}
use Rattle.shapes.specs.Common.{Drawing}
use Rattle.split_drawing_laws.specs.drawings.Pairs.{AllFit}
use Rattle.split_drawing_laws.specs.drawings.Passing.{Joining, Going}

-- d has come from a model by joining pairs of face f, and the pairs qs of f are still to come
pub record CanJoin (f : ℕ) (d : Drawing) (qs : List (ℕ × ℕ)) : Type 0 where
  pub before : Model
  pub fit : AllFit before f qs
  pub joining : Joining before f d qs 0

-- d has come from a sound model by joining pairs of face f and cutting faces off it, and the pairs qs of f are still to come
pub record CanDraw (f : ℕ) (d : Drawing) (qs : List (ℕ × ℕ)) : Type 0 where
  pub before : Model
  pub sound : Sound before
  pub fit : AllFit before f qs
  pub going : Going before f d qs 0
