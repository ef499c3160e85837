-- The six volumes of solids after a solid is opened along cycles of its section that lie on a plane.
use Rattle.std.specs.Prelude.{◌≡◌, ℕ, true, false, List, map}
use Rattle.euler_operators.specs.Common.{Plane, origin, same_point, direction, is_on, IsIn, Model, tail}
use Rattle.shapes.specs.Common.{start, Taken, is_plane_of, six_volume, Opening, opened_along, all_opened}
use Rattle.split_opening_laws.specs.strips.Opened.{CanBeOpened}
use Rattle.split_opening_laws.specs.sections.InTurn.{halves_in, CanBeOpenedInTurn}
use Rattle.split_opening_laws.specs.sections.Capped.{HasCaps}
use Rattle.split_laws.specs.opened.Told.{AllTellAlike, AllLieAlong}

-- if a solid is opened along a cycle whose vertices lie on a plane, it keeps its six volumes, and so does every other solid
abbrev pub OpeningKeepsVolumes : Type 0
OpeningKeepsVolumes = (M : Model) (above : List ℕ) (s : ℕ) (c : Taken) (bs : List ℕ) (p : Plane) (u : ℕ) → CanBeOpened M above s c bs → AllTellAlike M s →
    is_plane_of M p (map (tail M) bs) ≡ true → six_volume (opened_along M above s c bs) u ≡ six_volume M u

-- the plane has a direction, and all halves of these cycles start on it
pub record LieOn (M : Model) (p : Plane) (cs : List (List ℕ)) : Type 0 where
  pub some_way : same_point (direction p) origin ≡ false
  pub on_plane : (b : ℕ) → IsIn b (halves_in cs) → is_on p (start M b) ≡ true

-- if a solid is opened along all cycles of its section, one after the other, every solid keeps its six volumes
abbrev pub OpeningsKeepVolumes : Type 0
OpeningsKeepVolumes = (above : List ℕ) (s : ℕ) (p : Plane) (o : Opening) (cs : List (List ℕ)) (u : ℕ) → CanBeOpenedInTurn above s o cs → AllTellAlike o.model s → LieOn o.model p cs →
    six_volume (all_opened p above s o cs).model u ≡ six_volume o.model u

-- all caps lie along the plane
abbrev pub CapsLieAlong : Type 0
CapsLieAlong = (above : List ℕ) (s : ℕ) (p : Plane) (o : Opening) (cs : List (List ℕ)) → CanBeOpenedInTurn above s o cs → HasCaps above s o → AllLieAlong o.model p o.caps → LieOn o.model p cs →
    AllLieAlong (all_opened p above s o cs).model p (all_opened p above s o cs).caps
