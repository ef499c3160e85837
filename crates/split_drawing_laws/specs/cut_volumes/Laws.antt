-- What the first rewriting of a split leaves as it was: normals, planes and volumes.
use Rattle.std.specs.Prelude.{◌≡◌, ℕ, true}
use Rattle.euler_operators.specs.Common.{Plane, Model, faces_of, Sound, lists}
use Rattle.shapes.specs.Common.{corners, normal, plane_of, is_plane_of, is_flat, six_volume, with_crossings}
use Rattle.split_drawing_laws.specs.crossings.Laws.{CanBegin}

-- each face keeps its normal while the edges that cross the plane are cut
abbrev pub CrossingsKeepNormals : Type 0
CrossingsKeepNormals = (M : Model) (s : ℕ) (p : Plane) (t : ℕ) → Sound M → CanBegin M s p t → (f : ℕ) → normal (with_crossings M s p).model f ≡ normal M f

-- if all corners of a face lie on a plane, so do the corners that it has after the cuts
abbrev pub CrossingsKeepPlanes : Type 0
CrossingsKeepPlanes = (M : Model) (s : ℕ) (p : Plane) (t : ℕ) → Sound M → CanBegin M s p t → (f : ℕ) (r : Plane) →
    is_plane_of M r (corners M f) ≡ true → is_plane_of (with_crossings M s p).model r (corners (with_crossings M s p).model f) ≡ true

-- each face of the solid is flat, and keeps its plane
abbrev pub CrossingsKeepFlat : Type 0
CrossingsKeepFlat = (M : Model) (s : ℕ) (p : Plane) (t : ℕ) → Sound M → CanBegin M s p t → (f : ℕ) → lists (faces_of M s) f ≡ true →
    (is_flat (with_crossings M s p).model f ≡ true) × (plane_of (with_crossings M s p).model f ≡ plane_of M f)

-- each solid keeps its six volumes
abbrev pub CrossingsKeepVolumes : Type 0
CrossingsKeepVolumes = (M : Model) (s : ℕ) (p : Plane) (t : ℕ) → Sound M → CanBegin M s p t → (u : ℕ) → six_volume (with_crossings M s p).model u ≡ six_volume M u
