-- The laws of drawing edges in faces, each over every sound model and all faces whose pairs of half-edges fit.
use Rattle.std.specs.Prelude.{◌≡◌, List, map}
use Rattle.euler_operators.specs.Common.{Plane, IsApart, Sound}
use Rattle.euler_laws.specs.Laws.{effects, AreAccepted}
use Rattle.shapes.specs.Common.{Growing, FacePairs, faces_drawn, undrawn}
use Rattle.split_drawing_laws.specs.drawings.DrawingOps.{drawing_ops}
use Rattle.split_drawing_laws.specs.drawings.DrawnIn.{Stays, AreFreeForPairs, AreLeftForPairs}
use Rattle.split_drawing_laws.specs.drawings.Pairs.{FacesFit, pairs_in}

-- in g's model, which has its edges cut, the faces fs can be drawn between their pairs
pub record CanBeDrawn (g : Growing) (fs : List FacePairs) : Type 0 where
  pub sound : Sound g.model
  pub fresh : AreFreeForPairs g.model g.taken
  pub room : AreLeftForPairs g.taken (pairs_in fs)
  pub fit : FacesFit g.model fs
  pub apart : IsApart (map (λ f. f.face) fs)

-- each operator is accepted in its turn
abbrev pub DrawingsAreAccepted : Type 0
DrawingsAreAccepted = (p : Plane) (g : Growing) (fs : List FacePairs) → CanBeDrawn g fs → AreAccepted g.model (drawing_ops p g fs)

-- together they make the model of the drawing
abbrev pub DrawingsAreMade : Type 0
DrawingsAreMade = (p : Plane) (g : Growing) (fs : List FacePairs) → CanBeDrawn g fs → effects g.model (drawing_ops p g fs) ≡ (faces_drawn p (undrawn g) fs).model

abbrev pub DrawingsAreSound : Type 0
DrawingsAreSound = (p : Plane) (g : Growing) (fs : List FacePairs) → CanBeDrawn g fs → Sound (faces_drawn p (undrawn g) fs).model

-- half-edges stay and start where they did, and vertices and faces stay
abbrev pub DrawingsKeep : Type 0
DrawingsKeep = (p : Plane) (g : Growing) (fs : List FacePairs) → CanBeDrawn g fs → Stays g.model (faces_drawn p (undrawn g) fs).model
