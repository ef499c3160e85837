-- The drawing in a split that isn't refused.
use Rattle.std.specs.Prelude.{◌≡◌, ℕ, None}
use Rattle.euler_operators.specs.Common.{Plane, Model, Sound}
use Rattle.shapes.specs.Common.{Drawing, with_drawings, split_refusal}
use Rattle.split_drawing.specs.solid_drawing.Drawn.{put_aside}

-- d is the drawing of a sound model whose split isn't refused, without the pairs of the face that was drawn last
pub record IsDrawn (d : Drawing) (s : ℕ) (p : Plane) (t : ℕ) : Type 0 where
  pub before : Model
  pub sound : Sound before
  pub accepted : split_refusal before s p t ≡ None
  pub drawn : d ≡ put_aside (with_drawings before s p)
