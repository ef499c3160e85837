-- Faces in which edges are drawn between their pairs, one face after the other.
use Rattle.std.specs.Prelude.{ℕ, List, [], map}
use Rattle.euler_operators.specs.Common.{Plane, Has}
use Rattle.shapes.specs.Common.{Drawing, FacePairs}
use Rattle.split_drawing_laws.specs.drawings.Passing.{Ready, Drawable}
use Rattle.split_checks.specs.cut_places.Walks.{AreIn}

-- the drawing without the pairs that a face's first pass left
abbrev pub put_aside : Drawing → Drawing
put_aside d = record d { left = [] }

-- face f of d's model can be drawn between the pairs qs
pub record CanDrawFace (p : Plane) (f : ℕ) (qs : List (ℕ × ℕ)) (d : Drawing) : Type 0 where
  pub there : Has d.model.faces f
  pub ready : Ready p f qs d 0

-- some faces of d's model can be drawn between their pairs, one after the other
pub record CanDrawFaces (fs : List FacePairs) (d : Drawing) : Type 0 where
  pub there : AreIn d.model.faces (map (λ f. f.face) fs)
  pub drawable : Drawable d fs 0
