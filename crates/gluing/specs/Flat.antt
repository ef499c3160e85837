-- Solids of which a glue needs to test no face.
use Rattle.std.specs.Prelude.{◌≡◌, ℕ, true, false}
use Rattle.euler_operators.specs.Common.{Model, content, face_of, solid_of, Has, is_lone}
use Rattle.shapes.specs.Common.{is_flat}

-- all faces of solid s are flat, and none of their loops is a lone vertex
pub record IsClosedFlat (M : Model) (s : ℕ) : Type 0 where
  pub flat : (k : ℕ) → Has M.faces k → solid_of M k ≡ s → is_flat M k ≡ true
  pub closed : (l : ℕ) → Has M.loops l → solid_of M (face_of M l) ≡ s → is_lone (content M l) ≡ false
