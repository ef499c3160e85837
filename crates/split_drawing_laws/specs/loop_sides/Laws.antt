-- The law of the sides on which loops lie after edges are drawn.
use Rattle.std.specs.Prelude.{◌≡◌, ◌≢◌, ℕ, Bool, true, List, map}
use Rattle.euler_operators.specs.Common.{Plane, IsIn, loop_of, after, HasHalf}
use Rattle.shapes.specs.Common.{start, Growing, FacePairs, faces_drawn, undrawn}
use Rattle.split_drawing_laws.specs.drawings.Laws.{CanBeDrawn}
use Rattle.split_drawing_laws.specs.loop_sides.Parted.{Sided, LiesOn, Open, FacesCross, all_ends}

-- each half-edge of the model with its edges cut has a side. The half-edges that `mine` picks start on their sides. Going round a loop, the
-- side changes only at the half-edges of the pairs; these start on the plane, and the two of a pair have different sides
pub record TakeSides (p : Plane) (g : Growing) (fs : List FacePairs) (first mine : ℕ → Bool) : Type 0 where
  pub some : (f : ℕ) → IsIn f (map (λ f. f.face) fs) → f ≢ 0
  pub cross : FacesCross g.model p first fs
  pub fine : Open g.model (all_ends fs)
  pub sided : Sided (HasHalf g.model) (after g.model) first (all_ends fs)
  pub level : (h : ℕ) → HasHalf g.model h → mine h ≡ true → LiesOn p (first h) (start g.model h)

-- a drawing that isn't stuck leaves each loop on one closed side of the plane
abbrev pub LoopsLieOnOneSide : Type 0
LoopsLieOnOneSide = (p : Plane) (g : Growing) (fs : List FacePairs) (first mine : ℕ → Bool) → CanBeDrawn g fs → TakeSides p g fs first mine → (faces_drawn p (undrawn g) fs).stuck ≡ 0 →
    (x y : ℕ) → HasHalf (faces_drawn p (undrawn g) fs).model x → HasHalf (faces_drawn p (undrawn g) fs).model y → loop_of (faces_drawn p (undrawn g) fs).model x ≡ loop_of (faces_drawn p (undrawn g) fs).model y →
    mine x ≡ true → mine y ≡ true → (b : Bool) × LiesOn p b (start (faces_drawn p (undrawn g) fs).model x) × LiesOn p b (start (faces_drawn p (undrawn g) fs).model y)
