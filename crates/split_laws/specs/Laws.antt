-- The laws of splits, each over every sound model and every split that isn't refused.
use Rattle.std.specs.Prelude.{◌≡◌, ℕ, List, None}
use Rattle.euler_operators.specs.Common.{Plane, Model, Sound}
use Rattle.euler_laws.specs.Laws.{AreAccepted, effects}
use Rattle.shapes.specs.Common.{Opening, all_opened, split_refusal, split_model}
use Rattle.split_opening_laws.specs.sections.InTurn.{CanBeOpenedInTurn}
use Rattle.split_laws.specs.SplitOps.{openings_ops, split_ops}

-- each operator that opens a solid along the cycles of its section is accepted in its turn
abbrev pub OpeningsAreAccepted : Type 0
OpeningsAreAccepted = (above : List ℕ) (s : ℕ) (p : Plane) (o : Opening) (cs : List (List ℕ)) → CanBeOpenedInTurn above s o cs → AreAccepted o.model (openings_ops above s p o cs)

-- and together they open it along all these cycles
abbrev pub OpeningsAreMade : Type 0
OpeningsAreMade = (above : List ℕ) (s : ℕ) (p : Plane) (o : Opening) (cs : List (List ℕ)) → CanBeOpenedInTurn above s o cs →
    effects o.model (openings_ops above s p o cs) ≡ (all_opened p above s o cs).model

-- each operator of a split is accepted in its turn
abbrev pub SplitsAreAccepted : Type 0
SplitsAreAccepted = (M : Model) (s : ℕ) (p : Plane) (t : ℕ) → Sound M → split_refusal M s p t ≡ None → AreAccepted M (split_ops M s p t)

-- together they split the solid
abbrev pub SplitsMakeSplit : Type 0
SplitsMakeSplit = (M : Model) (s : ℕ) (p : Plane) (t : ℕ) → Sound M → split_refusal M s p t ≡ None → effects M (split_ops M s p t) ≡ split_model M s p t

abbrev pub SplitAreSound : Type 0
SplitAreSound = (M : Model) (s : ℕ) (p : Plane) (t : ℕ) → Sound M → split_refusal M s p t ≡ None → Sound (split_model M s p t)
