-- What the second rewriting of a split leaves as it was: planes and volumes.
use Rattle.std.specs.Prelude.{◌≡◌, ℕ, true}
use Rattle.euler_operators.specs.Common.{Plane, Model, faces_of, Sound, Has, lists}
use Rattle.shapes.specs.Common.{corners, plane_of, is_plane_of, six_volume, with_drawings}
use Rattle.split_drawing_laws.specs.crossings.Laws.{CanBegin}

-- face f of N lies on the plane of a face of solid s of M; if f was a face of M, this is its own plane
pub record LiesOnOld (M N : Model) (s f : ℕ) : Type 0 where
  pub face : ℕ
  pub of_solid : lists (faces_of M s) face ≡ true
  pub own : Has M.faces f → face ≡ f
  pub on : is_plane_of N (plane_of M face) (corners N f) ≡ true

-- after the faces that straddle are drawn as well, each face of the solid lies on the plane of a face that the solid had before
abbrev pub DrawingsKeepPlanes : Type 0
DrawingsKeepPlanes = (M : Model) (s : ℕ) (p : Plane) (t : ℕ) → Sound M → CanBegin M s p t → (f : ℕ) → lists (faces_of (with_drawings M s p).model s) f ≡ true → LiesOnOld M (with_drawings M s p).model s f

-- each solid keeps its six volumes
abbrev pub DrawingsKeepVolumes : Type 0
DrawingsKeepVolumes = (M : Model) (s : ℕ) (p : Plane) (t : ℕ) → Sound M → CanBegin M s p t → (u : ℕ) → six_volume (with_drawings M s p).model u ≡ six_volume M u
