-- The sides of a plane that are noted.
use Rattle.std.specs.Prelude.{◌≡◌, ◌≢◌, List, [], ◌∷◌}
use Rattle.euler_operators.specs.Common.{Plane, height, sign_of, Model, point_of, Has}
use Rattle.split_checks.specs.declared.cut_places.noted.Noted.{Noted}
use Rattle.split_checks.specs.declared.cut_places.noted.Sides.{Sides}

-- a vertex that is there, and its side
pub record IsSide (M : Model) (p : Plane) (n : Noted) : Type 0 where
  pub there : Has M.vertices n.vertex
  pub side : n.side ≡ sign_of (height p (point_of M n.vertex))

-- each noted side is that of its vertex, which is there
abbrev pub AreNoted : Model → Plane → List Noted → Type 0
AreNoted M p [] = Unit {0}
AreNoted M p (n ∷ ns) = (n.vertex ≢ 0 → IsSide M p n) × AreNoted M p ns

abbrev pub AreSides : Model → Plane → Sides → Type 0
AreSides M p sides = AreNoted M p sides.noted
