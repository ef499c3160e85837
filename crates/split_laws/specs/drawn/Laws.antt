-- The laws of splits after their faces are drawn, over every sound model and every split that isn't refused.
use Rattle.std.specs.Prelude.{◌≡◌, ℕ, true, false, [], None}
use Rattle.euler_operators.specs.Common.{Plane, Model, Sound}
use Rattle.shapes.specs.Common.{faces_above, with_crossings, with_drawings, below_halves, section_cycles, split_refusal}
use Rattle.split_opening_laws.specs.sections.InTurn.{CanBeOpenedInTurn}
use Rattle.split_laws.specs.drawn.Kept.{KeepsSolids, HasFace}

-- each half-edge stays in its solid while faces are drawn
abbrev pub DrawingsKeepSolids : Type 0
DrawingsKeepSolids = (M : Model) (s : ℕ) (p : Plane) (t : ℕ) → Sound M → split_refusal M s p t ≡ None → KeepsSolids (with_crossings M s p).model (with_drawings M s p).model

-- then the solid has a face above, and a face that isn't above
abbrev pub SolidsHaveAFaceAbove : Type 0
SolidsHaveAFaceAbove = (M : Model) (s : ℕ) (p : Plane) (t : ℕ) → Sound M → split_refusal M s p t ≡ None → HasFace (with_drawings M s p).model s (faces_above (with_drawings M s p).model p s) true

abbrev pub SolidsHaveAFaceBelow : Type 0
SolidsHaveAFaceBelow = (M : Model) (s : ℕ) (p : Plane) (t : ℕ) → Sound M → split_refusal M s p t ≡ None → HasFace (with_drawings M s p).model s (faces_above (with_drawings M s p).model p s) false

-- then the solid can be opened along the cycles of its section in turn
abbrev pub SectionsOpenInTurn : Type 0
SectionsOpenInTurn = (M : Model) (s : ℕ) (p : Plane) (t : ℕ) → Sound M → split_refusal M s p t ≡ None →
    CanBeOpenedInTurn (faces_above (with_drawings M s p).model p s) s (record { model = (with_drawings M s p).model; taken = (with_drawings M s p).taken; caps = [] })
    (section_cycles (with_drawings M s p).model (below_halves (with_drawings M s p).model (faces_above (with_drawings M s p).model p s) s))
