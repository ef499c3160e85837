-- What a split that was answered Ok leaves unchanged: what isn't of the solid that was split, and the faces of this solid that the plane doesn't
-- straddle.
use Rattle.std.specs.Prelude.{◌≡◌, ◌⊎◌, ℕ}
use Rattle.euler_operators.specs.Common.{Plane, Model, solid_of, Sound}
use Rattle.undo_journal.specs.Machine.{Machine, held}
use Rattle.plane_split.specs.SplitModels.{IsSplit}
use Rattle.command_laws.specs.LeftAlone.{KeepsRows, KeepsLoops, KeepsEdges, KeepsPoints, KeepsShapes, OfOthers}

-- each face of another solid keeps its row
abbrev pub SplitKeepsRows : Type 0
SplitKeepsRows = (before after : Machine) (s : ℕ) (p : Plane) (t : ℕ) → Sound (held before) → IsSplit before after s p t → KeepsRows (OfOthers (held before) s) (held before) (held after)

-- each loop of such a face keeps its face and its content
abbrev pub SplitKeepsLoops : Type 0
SplitKeepsLoops = (before after : Machine) (s : ℕ) (p : Plane) (t : ℕ) → Sound (held before) → IsSplit before after s p t → KeepsLoops (OfOthers (held before) s) (held before) (held after)

-- each edge on such a face keeps its ends
abbrev pub SplitKeepsEdges : Type 0
SplitKeepsEdges = (before after : Machine) (s : ℕ) (p : Plane) (t : ℕ) → Sound (held before) → IsSplit before after s p t → KeepsEdges (OfOthers (held before) s) (held before) (held after)

-- and each vertex on its loops keeps its point
abbrev pub SplitKeepsPoints : Type 0
SplitKeepsPoints = (before after : Machine) (s : ℕ) (p : Plane) (t : ℕ) → Sound (held before) → IsSplit before after s p t → KeepsPoints (OfOthers (held before) s) (held before) (held after)

-- so each such face keeps its outer loop, rings, corner points and plane
abbrev pub SplitKeepsShapes : Type 0
SplitKeepsShapes = (before after : Machine) (s : ℕ) (p : Plane) (t : ℕ) → Sound (held before) → IsSplit before after s p t → KeepsShapes (OfOthers (held before) s) (held before) (held after)

-- ---- the faces of the two parts

-- face k belongs to one of two solids
abbrev pub IsOfEither : Model → ℕ → ℕ → ℕ → Type 0
IsOfEither N s t k = (solid_of N k ≡ s) ⊎ (solid_of N k ≡ t)
