-- What holds while the pairs of a face are passed over, and after that while one face after the other is.
use Rattle.std.specs.Prelude.{ℕ, ◌+◌, List, map, length}
use Rattle.euler_operators.specs.Common.{Plane, IsApart, Model, Sound}
use Rattle.shapes.specs.Common.{Drawing, FacePairs}
use Rattle.split_drawing_laws.specs.drawings.DrawnIn.{JoinedIn, DrawnIn, AreFreeForPairs, AreLeftForPairs}
use Rattle.split_drawing_laws.specs.drawings.Pairs.{AllFit, LoneInOneLoop, FacesFit, pairs_in}

-- d is being joined in face f of M: qs are still to come, and numbers for n more pairs are left
pub record Joining (M : Model) (f : ℕ) (d : Drawing) (qs : List (ℕ × ℕ)) (n : ℕ) : Type 0 where
  pub joined : JoinedIn M d.model f
  pub fresh : AreFreeForPairs d.model d.taken
  pub room : AreLeftForPairs d.taken (length d.left + length qs + n)
  pub pairs : AllFit M f d.left

-- d is being drawn in face f of M: qs are still to come, and numbers for n more pairs are left
pub record Going (M : Model) (f : ℕ) (d : Drawing) (qs : List (ℕ × ℕ)) (n : ℕ) : Type 0 where
  pub drawn : DrawnIn M d.model f
  pub fresh : AreFreeForPairs d.model d.taken
  pub room : AreLeftForPairs d.taken (length qs + n)

-- face f of d's model can be drawn between the pairs qs, and numbers for n more pairs are left
pub record Ready (p : Plane) (f : ℕ) (qs : List (ℕ × ℕ)) (d : Drawing) (n : ℕ) : Type 0 where
  pub sound : Sound d.model
  pub fresh : AreFreeForPairs d.model d.taken
  pub room : AreLeftForPairs d.taken (length qs + n)
  pub fit : AllFit d.model f qs
  pub alone : LoneInOneLoop d.model qs

-- the faces fs can be drawn in d between their pairs, and numbers for n more pairs are left
pub record Drawable (d : Drawing) (fs : List FacePairs) (n : ℕ) : Type 0 where
  pub sound : Sound d.model
  pub fresh : AreFreeForPairs d.model d.taken
  pub room : AreLeftForPairs d.taken (pairs_in fs + n)
  pub fit : FacesFit d.model fs
  pub apart : IsApart (map (λ f. f.face) fs)
