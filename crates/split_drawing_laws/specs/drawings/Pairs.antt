-- Pairs of half-edges between which edges can be drawn in a face.
use Rattle.std.specs.Prelude.{◌≡◌, ◌≢◌, ℕ, ◌+◌, true, List, [], ◌∷◌, length}
use Rattle.euler_operators.specs.Common.{Model, tail, HasHalf, face_at}
use Rattle.shapes.specs.Common.{FacePairs, in_one_loop}

-- the two half-edges belong to face f and start at different vertices
pub record Fits (M : Model) (f : ℕ) (q : ℕ × ℕ) : Type 0 where
  pub u_there : HasHalf M q.0
  pub k_there : HasHalf M q.1
  pub u_face : face_at M q.0 ≡ f
  pub k_face : face_at M q.1 ≡ f
  pub apart : tail M q.0 ≢ tail M q.1

-- P holds of each item of a list
abbrev pub AllOf : {X : Type 0} → (X → Type 0) → List X → Type 0
AllOf P [] = Unit {0}
AllOf P (x ∷ xs) = P x × AllOf P xs

abbrev pub AllFit : Model → ℕ → List (ℕ × ℕ) → Type 0
AllFit M f = AllOf (Fits M f)

-- if there is only one pair, it stands in one loop
abbrev pub LoneInOneLoop : Model → List (ℕ × ℕ) → Type 0
LoneInOneLoop M [] = Unit {0}
LoneInOneLoop M (q ∷ []) = in_one_loop M q ≡ true
LoneInOneLoop M (q ∷ r ∷ qs) = Unit {0}

-- the same for the pairs of each of some faces
abbrev pub FacesFit : Model → List FacePairs → Type 0
FacesFit M = AllOf (λ f. AllFit M f.face f.pairs × LoneInOneLoop M f.pairs)

-- how many pairs some faces have
abbrev pub pairs_in : List FacePairs → ℕ
pairs_in [] = 0
pairs_in (f ∷ fs) = length f.pairs + pairs_in fs
