-- What stays in a model while its faces are drawn, and what it has then.
use Rattle.std.specs.Prelude.{◌≡◌, ℕ, Bool, List}
use Rattle.euler_operators.specs.Common.{Model, solid_of, Has, HasHalf, face_at, lists}

-- solids stay, and each half-edge stays in its solid
pub record KeepsSolids (M N : Model) : Type 0 where
  pub halves : (h : ℕ) → HasHalf M h → solid_of N (face_at N h) ≡ solid_of M (face_at M h)
  pub solids : N.solids ≡ M.solids

-- solid s has a face that is listed, or one that isn't
pub record HasFace (N : Model) (s : ℕ) (fs : List ℕ) (listed : Bool) : Type 0 where
  pub face : ℕ
  pub there : Has N.faces face
  pub of_solid : solid_of N face ≡ s
  pub is : lists fs face ≡ listed
