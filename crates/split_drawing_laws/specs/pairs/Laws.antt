-- The laws by which the first conditions of a split allow its second rewriting, over every sound model in which they hold.
use Rattle.std.specs.Prelude.{◌≡◌, ℕ, ◌*◌, true, List, ◌++◌, length}
use Rattle.euler_operators.specs.Common.{Plane, Model, Sound, lists}
use Rattle.euler_operators.specs.declared.Op.{Op}
use Rattle.euler_laws.specs.Laws.{AreAccepted, effects}
use Rattle.shapes.specs.Common.{straddling_faces, places, place_pairs, with_crossings, straddling_pairs, with_drawings}
use Rattle.split_drawing_laws.specs.crossings.CrossingOps.{crossing_ops}
use Rattle.split_drawing_laws.specs.crossings.Laws.{CanBegin}
use Rattle.split_drawing_laws.specs.drawings.DrawingOps.{drawing_ops}
use Rattle.split_drawing_laws.specs.drawings.Laws.{CanBeDrawn}

-- after the edges that cross the plane are cut, the faces that straddle can be drawn between their pairs of cut places
abbrev pub CutPlacesCanBeDrawn : Type 0
CutPlacesCanBeDrawn = (M : Model) (s : ℕ) (p : Plane) (t : ℕ) → Sound M → CanBegin M s p t → CanBeDrawn (with_crossings M s p) (straddling_pairs M s p)

-- no cut place of such a face is left out of its pairs: it has twice as many cut places as pairs
abbrev pub CutPlacesPairUp : Type 0
CutPlacesPairUp = (M : Model) (s : ℕ) (p : Plane) (t : ℕ) → Sound M → CanBegin M s p t → (f : ℕ) → lists (straddling_faces M p s) f ≡ true →
    length (places M p f) ≡ 2 * length (place_pairs M p f)

-- the operators of both rewritings: they cut the edges that cross the plane, and then draw the faces that straddle
abbrev pub rewriting_ops : Model → ℕ → Plane → List Op
rewriting_ops M s p = crossing_ops M s p ++ drawing_ops p (with_crossings M s p) (straddling_pairs M s p)

-- each operator is accepted in its turn
abbrev pub RewritingsAreAccepted : Type 0
RewritingsAreAccepted = (M : Model) (s : ℕ) (p : Plane) (t : ℕ) → Sound M → CanBegin M s p t → AreAccepted M (rewriting_ops M s p)

-- together they make both rewritings
abbrev pub RewritingsAreMade : Type 0
RewritingsAreMade = (M : Model) (s : ℕ) (p : Plane) (t : ℕ) → Sound M → CanBegin M s p t → effects M (rewriting_ops M s p) ≡ (with_drawings M s p).model

abbrev pub RewritingsAreSound : Type 0
RewritingsAreSound = (M : Model) (s : ℕ) (p : Plane) (t : ℕ) → Sound M → CanBegin M s p t → Sound (with_drawings M s p).model
