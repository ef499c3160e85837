-- The laws of loops and faces after a split has drawn its edges: on which sides they lie, and that no loop of the solid is lone. They hold
-- over every sound model in which the first conditions of a split hold.
use Rattle.std.specs.Prelude.{◌≡◌, ℕ, Bool, true, false}
use Rattle.euler_operators.specs.Common.{Plane, Model, loop_of, solid_of, faces_of, Sound, HasHalf, face_at, lists}
use Rattle.shapes.specs.Common.{start, straddles, with_drawings}
use Rattle.split_drawing_laws.specs.crossings.Laws.{CanBegin}
use Rattle.split_drawing_laws.specs.loop_sides.Parted.{LiesOn}
use Rattle.split_drawing_laws.specs.face_sides.Lone.{NoLoopIsLone}

-- D is M after the edges of solid s are cut and its faces drawn, and no face is stuck
abbrev pub IsDrawn : Model → ℕ → Plane → Model → Type 0
IsDrawn M s p D = ((with_drawings M s p).stuck ≡ 0) × ((with_drawings M s p).model ≡ D)

-- each loop of the solid lies on one closed side of the plane
abbrev pub LoopsOfSolidsLieOnOneSide : Type 0
LoopsOfSolidsLieOnOneSide = (M D : Model) (s : ℕ) (p : Plane) (t : ℕ) → Sound M → CanBegin M s p t → IsDrawn M s p D → (x y : ℕ) → HasHalf D x → HasHalf D y →
    loop_of D x ≡ loop_of D y → solid_of D (face_at D x) ≡ s → (b : Bool) × LiesOn p b (start D x) × LiesOn p b (start D y)

-- no face of the solid straddles the plane any more
abbrev pub NoneStraddles : Type 0
NoneStraddles = (M D : Model) (s : ℕ) (p : Plane) (t : ℕ) → Sound M → CanBegin M s p t → IsDrawn M s p D → (f : ℕ) → lists (faces_of D s) f ≡ true → straddles D p f ≡ false

-- no loop of the solid is lone
abbrev pub SolidsHaveNoLoneLoop : Type 0
SolidsHaveNoLoneLoop = (M D : Model) (s : ℕ) (p : Plane) (t : ℕ) → Sound M → CanBegin M s p t → IsDrawn M s p D → NoLoopIsLone D s
