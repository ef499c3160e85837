-- What is asked of the faces of a solid that is opened so that it keeps its six volumes.
use Rattle.std.specs.Prelude.{◌≡◌, ◌≢◌, ℕ, true, List, [], ◌∷◌}
use Rattle.euler_operators.specs.Common.{Plane, origin, dot, cross, direction, is_on, IsIn, Model, cycle, items_of, content, face_of, outer, solid_of, Has}
use Rattle.shapes.specs.Common.{start, normal, anchor, Caps}

-- all corners of the face's outer loop have the same product along its normal, as for a flat face
abbrev pub TellsAlike : Model → ℕ → Type 0
TellsAlike M f = (h : ℕ) → IsIn h (items_of (content M (outer M f))) → dot (start M h) (normal M f) ≡ dot (anchor M f) (normal M f)

-- all faces of a solid are like that
abbrev pub AllTellAlike : Model → ℕ → Type 0
AllTellAlike M s = (f : ℕ) → Has M.faces f → solid_of M f ≡ s → TellsAlike M f

-- the corners of the face's outer loop lie on the plane, and its normal points along the plane's direction or against it
pub record LiesAlong (M : Model) (p : Plane) (f : ℕ) : Type 0 where
  pub items : List ℕ
  pub some_item : items ≢ []
  pub outer_is : content M (outer M f) ≡ cycle items
  pub on_plane : (h : ℕ) → IsIn h items → is_on p (start M h) ≡ true
  pub across : cross (direction p) (normal M f) ≡ origin

-- the outer loop of each face is there, and belongs to that face
abbrev pub OutersAreOwn : Model → Type 0
OutersAreOwn M = (k : ℕ) → Has M.faces k → Has M.loops (outer M k) × (face_of M (outer M k) ≡ k)

-- the two caps of each cycle lie along the plane
abbrev pub AllLieAlong : Model → Plane → List Caps → Type 0
AllLieAlong M p [] = Unit {0}
AllLieAlong M p (k ∷ ks) = LiesAlong M p k.lower × LiesAlong M p k.upper × AllLieAlong M p ks
