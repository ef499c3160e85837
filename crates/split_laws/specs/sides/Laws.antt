-- On which sides of the plane the two parts of a split solid lie.
use Rattle.std.specs.Prelude.{◌≡◌, ℕ, true, false, List}
use Rattle.euler_operators.specs.Common.{Plane, is_above, is_below, Model, faces_of, Sound, lists}
use Rattle.shapes.specs.Common.{start, straddles, faces_above, Drawing, Opening, all_opened, split_drawn}
use Rattle.split_opening_laws.specs.sections.InTurn.{upper_faces, CanBeOpenedInTurn}
use Rattle.split_laws.specs.opened.Laws.{LieOn}
use Rattle.split_laws.specs.volumes.Laws.{CanBeSplit}
use Rattle.split_laws.specs.sides.Sided.{IsOfSolid, AreSided}

-- if no face of the solid straddles the plane, its faces above lie on or above it, and the others on or below it
abbrev pub FacesAreSided : Type 0
FacesAreSided = (M : Model) (p : Plane) (s : ℕ) → Sound M → ((f : ℕ) → lists (faces_of M s) f ≡ true → straddles M p f ≡ false) → AreSided M p s (faces_above M p s)

-- after the solid is opened along the cycles of its section, the upper faces lie on or above the plane and the others on or below it
abbrev pub OpeningsKeepSides : Type 0
OpeningsKeepSides = (above : List ℕ) (s : ℕ) (p : Plane) (o : Opening) (cs : List (List ℕ)) → CanBeOpenedInTurn above s o cs → LieOn o.model p cs → AreSided o.model p s (upper_faces above o.caps) →
    AreSided (all_opened p above s o cs).model p s (upper_faces above (all_opened p above s o cs).caps)

-- so all of solid s then lies on or below the plane, and all of t on or above it
abbrev pub PartsLieOnTheirSides : Type 0
PartsLieOnTheirSides = (d : Drawing) (above : List ℕ) (s : ℕ) (p : Plane) (t : ℕ) → CanBeSplit d above s p t → AreSided d.model p s above → (l h : ℕ) →
    (IsOfSolid (split_drawn d above s p t) s l h → is_above p (start (split_drawn d above s p t) h) ≡ false)
    × (IsOfSolid (split_drawn d above s p t) t l h → is_below p (start (split_drawn d above s p t) h) ≡ false)
