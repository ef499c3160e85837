-- On which side of a plane half-edges lie, after the edges of a solid that cross it are cut.
use Rattle.std.specs.Prelude.{ℕ, Bool, cond, not, ◌||◌, nat_eq}
use Rattle.euler_operators.specs.Common.{Plane, is_above, Model, has_half, solid_of, face_at, lists}
use Rattle.shapes.specs.Common.{start, finish, reaches_above, straddling_faces, with_crossings}

-- a half-edge is above if one of its ends lies strictly above
abbrev pub half_is_above : Model → Plane → ℕ → Bool
half_is_above N p h = is_above p (start N h) || is_above p (finish N h)

-- the side of half-edge h of N, which is M with its edges cut: in a face of solid s that straddles, it is the side of h itself; in another
-- face, that of the whole face
abbrev pub side_in : Model → Model → ℕ → Plane → ℕ → Bool
side_in M N s p h = cond (lists (straddling_faces M p s) (face_at N h)) (half_is_above N p h) (reaches_above M p (face_at N h))

-- the side of half-edge h after the edges of solid s are cut; true is above
unfoldable pub side_of : Model → ℕ → Plane → ℕ → Bool
side_of M s p h = side_in M (with_crossings M s p).model s p h

-- h is no half-edge of N, or belongs to solid s
abbrev pub no_other : Model → ℕ → ℕ → Bool
no_other N s h = not (has_half N h) || nat_eq (solid_of N (face_at N h)) s

-- the same after the edges are cut: h doesn't belong to another solid
unfoldable pub is_own : Model → ℕ → Plane → ℕ → Bool
is_own M s p h = no_other (with_crossings M s p).model s h
