-- The halves of section edges in the faces that aren't above.
use Rattle.std.specs.Prelude.{ℕ, Bool, not, List, filter}
use Rattle.euler_operators.specs.Common.{IsApart, IsIn, Model, face_at, lists}
use Rattle.split_opening_laws.specs.cycles.SectionCycles.{IsBelowHalf}

-- a half-edge lies in a face that isn't above; and those of some half-edges
abbrev pub lies_below : Model → List ℕ → ℕ → Bool
lies_below M above h = not (lists above (face_at M h))

abbrev pub lying_below : Model → List ℕ → List ℕ → List ℕ
lying_below M above hs = filter (lies_below M above) hs

-- hs are the halves of the section edges of solid s in its faces that aren't above, each of them once
pub record AreSectionHalves (M : Model) (above : List ℕ) (s : ℕ) (hs : List ℕ) : Type 0 where
  pub apart : IsApart hs
  pub halves : (b : ℕ) → IsIn b hs → IsBelowHalf M above s b
  pub all : (b : ℕ) → IsBelowHalf M above s b → IsIn b hs
