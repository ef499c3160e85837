-- When the holes among the caps of a section can be closed.
use Rattle.std.specs.Prelude.{◌≡◌, ◌≢◌, ◌⊎◌, ℕ, true, not, List, [], filter}
use Rattle.std.specs.List.{list_any}
use Rattle.euler_operators.specs.Common.{Plane, origin, direction, IsApart, Model}
use Rattle.shapes.specs.Common.{Caps}
use Rattle.split_opening_laws.specs.sections.Capped.{ArePlain, cap_faces}
use Rattle.split_laws.specs.opened.Told.{OutersAreOwn, AllLieAlong}

-- the caps are different faces of solid s without rings, along the plane; if one of them belongs to a hole, another belongs to an outer
-- cycle
pub record CanClose (M : Model) (s : ℕ) (p : Plane) (ks : List Caps) : Type 0 where
  pub outers : OutersAreOwn M
  pub some_way : direction p ≢ origin
  pub plain : ArePlain M s ks
  pub along : AllLieAlong M p ks
  pub apart : IsApart (cap_faces ks)
  pub closable : (list_any (λ k. not k.hole) ks ≡ true) ⊎ (filter (λ k. k.hole) ks ≡ [])
