-- What the two parts of a split solid measure and where they lie, over every sound model and every split that isn't refused.
use Rattle.std.specs.Prelude.{◌≡◌, ◌≢◌, ℕ, ◌+ℤ◌, false, None}
use Rattle.euler_operators.specs.Common.{Plane, is_above, is_below, Model, Sound, Has}
use Rattle.shapes.specs.Common.{start, vertices_of, six_volume, some_above, some_below, faces_above, with_drawings, split_refusal, split_model}
use Rattle.split_drawing_laws.specs.face_sides.Lone.{NoLoopIsLone}
use Rattle.split_laws.specs.volumes.Laws.{CanBeSplit}
use Rattle.split_laws.specs.sides.Sided.{IsOfSolid}

-- after its edges are cut and its faces drawn, the model meets all that is asked of a drawn model that is split
abbrev pub SplitsCanBeSplit : Type 0
SplitsCanBeSplit = (M : Model) (s : ℕ) (p : Plane) (t : ℕ) → Sound M → split_refusal M s p t ≡ None →
    CanBeSplit (with_drawings M s p) (faces_above (with_drawings M s p).model p s) s p t

-- both parts are solids of the model
abbrev pub PartsAreSolids : Type 0
PartsAreSolids = (M : Model) (s : ℕ) (p : Plane) (t : ℕ) → Sound M → split_refusal M s p t ≡ None → Has (split_model M s p t).solids s × Has (split_model M s p t).solids t

-- the six volumes of the two parts sum to those of the solid
abbrev pub SplitsShareVolumes : Type 0
SplitsShareVolumes = (M : Model) (s : ℕ) (p : Plane) (t : ℕ) → Sound M → split_refusal M s p t ≡ None →
    six_volume M s ≡ six_volume (split_model M s p t) s +ℤ six_volume (split_model M s p t) t

-- every other solid keeps its own
abbrev pub SplitsKeepOthers : Type 0
SplitsKeepOthers = (M : Model) (s : ℕ) (p : Plane) (t u : ℕ) → Sound M → split_refusal M s p t ≡ None → u ≢ s → u ≢ t →
    six_volume (split_model M s p t) u ≡ six_volume M u

-- no half-edge of solid s starts above the plane any more, and none of t starts below it
abbrev pub PartsLieOnEitherSide : Type 0
PartsLieOnEitherSide = (M : Model) (s : ℕ) (p : Plane) (t : ℕ) → Sound M → split_refusal M s p t ≡ None → (l h : ℕ) →
    (IsOfSolid (split_model M s p t) s l h → is_above p (start (split_model M s p t) h) ≡ false)
    × (IsOfSolid (split_model M s p t) t l h → is_below p (start (split_model M s p t) h) ≡ false)

-- no loop of either solid is lone
abbrev pub PartsHaveNoLoneLoop : Type 0
PartsHaveNoLoneLoop = (M : Model) (s : ℕ) (p : Plane) (t : ℕ) → Sound M → split_refusal M s p t ≡ None → NoLoopIsLone (split_model M s p t) s × NoLoopIsLone (split_model M s p t) t

-- so no vertex of solid s lies above the plane any more, and none of t lies below it
abbrev pub VerticesLieOnEitherSide : Type 0
VerticesLieOnEitherSide = (M : Model) (s : ℕ) (p : Plane) (t : ℕ) → Sound M → split_refusal M s p t ≡ None →
    (some_above (split_model M s p t) p (vertices_of (split_model M s p t) s) ≡ false)
    × (some_below (split_model M s p t) p (vertices_of (split_model M s p t) t) ≡ false)
