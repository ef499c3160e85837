-- On which sides of a plane the faces of a solid lie.
use Rattle.std.specs.Prelude.{◌≡◌, ℕ, Bool, false, cond, List}
use Rattle.euler_operators.specs.Common.{Point, Plane, is_above, is_below, IsIn, Model, items_of, content, face_of, solid_of, Has, lists}
use Rattle.shapes.specs.Common.{start}

-- a point lies on or above the plane, or on or below it
abbrev pub IsOnSide : Plane → Bool → Point → Type 0
IsOnSide p upper r = cond upper (is_below p r) (is_above p r) ≡ false

-- half-edge h stands in a loop l of a face of solid s
pub record IsOfSolid (M : Model) (s l h : ℕ) : Type 0 where
  pub loop_there : Has M.loops l
  pub face_there : Has M.faces (face_of M l)
  pub of_solid : solid_of M (face_of M l) ≡ s
  pub item : IsIn h (items_of (content M l))

-- the listed faces of solid s lie on or above the plane, and its other faces on or below it
abbrev pub AreSided : Model → Plane → ℕ → List ℕ → Type 0
AreSided M p s fs = (l h : ℕ) → IsOfSolid M s l h → IsOnSide p (lists fs (face_of M l)) (start M h)
