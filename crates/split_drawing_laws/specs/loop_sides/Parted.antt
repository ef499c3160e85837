-- On which side of a plane half-edges lie while edges are drawn.
use Rattle.std.specs.Prelude.{◌≡◌, ◌≢◌, ℕ, Bool, true, false, not, List, [], ◌∷◌, ◌++◌}
use Rattle.euler_operators.specs.Common.{Point, Plane, is_above, is_below, is_on, count, IsIn, IsApart, Model, after, HasHalf}
use Rattle.shapes.specs.Common.{start, FacePairs}
use Rattle.split_drawing_laws.specs.drawings.DrawnIn.{Stays}
use Rattle.split_drawing_laws.specs.drawings.Pairs.{AllOf}

-- from x to the next half-edge the side stays, unless the next one is an open place: there it changes
pub record Sided (Old : ℕ → Type 0) (next : ℕ → ℕ) (side : ℕ → Bool) (places : List ℕ) : Type 0 where
  pub along : (x : ℕ) → Old x → count (next x) places ≡ 0 → side (next x) ≡ side x
  pub across : (x : ℕ) → Old x → IsIn (next x) places → side (next x) ≡ not (side x)

-- a point lies on the closed side above, or on the closed side below
abbrev pub LiesOn : Plane → Bool → Point → Type 0
LiesOn p true q = is_below p q ≡ false
LiesOn p false q = is_above p q ≡ false

-- in N, which is B with edges drawn, each half-edge has a side: one of B keeps its side in `first`; going round a loop, the side changes
-- only at the places that are still open; and the half-edges of a solid start on their sides
pub record Parted (B N : Model) (p : Plane) (first : ℕ → Bool) (OfSolid : ℕ → Type 0) (places : List ℕ) : Type 0 where
  pub stays : Stays B N
  pub side : ℕ → Bool
  pub kept : (h : ℕ) → HasHalf B h → side h ≡ first h
  pub sided : Sided (HasHalf N) (after N) side places
  pub level : (h : ℕ) → HasHalf N h → OfSolid h → LiesOn p (side h) (start N h)

-- the half-edges of some pairs
abbrev pub ends : List (ℕ × ℕ) → List ℕ
ends [] = []
ends (q ∷ qs) = q.0 ∷ q.1 ∷ ends qs

-- a pair's half-edges start on the plane and lie on different sides
pub record Crosses (B : Model) (p : Plane) (first : ℕ → Bool) (q : ℕ × ℕ) : Type 0 where
  pub u_there : HasHalf B q.0
  pub k_there : HasHalf B q.1
  pub apart : q.0 ≢ q.1
  pub u_on : is_on p (start B q.0) ≡ true
  pub k_on : is_on p (start B q.1) ≡ true
  pub sides : first q.0 ≡ not (first q.1)

abbrev pub AllCross : Model → Plane → (ℕ → Bool) → List (ℕ × ℕ) → Type 0
AllCross B p first = AllOf (Crosses B p first)

-- the open places are half-edges, and none stands twice
pub record Open (B : Model) (places : List ℕ) : Type 0 where
  pub there : (x : ℕ) → IsIn x places → HasHalf B x
  pub apart : IsApart places

-- the same for the pairs of each of some faces; and the half-edges of all their pairs
abbrev pub FacesCross : Model → Plane → (ℕ → Bool) → List FacePairs → Type 0
FacesCross B p first = AllOf (λ f. AllCross B p first f.pairs)

abbrev pub all_ends : List FacePairs → List ℕ
all_ends [] = []
all_ends (f ∷ fs) = ends f.pairs ++ all_ends fs
