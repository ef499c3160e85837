-- Which models operators make.
use Rattle.std.specs.Prelude.{◌≡◌, ◌↔◌, List, All}
use Rattle.euler_operators.specs.Common.{Model, empty_model, Sound}
use Rattle.euler_operators.specs.declared.Op.{Op}
use Rattle.euler_operators.specs.declared.Op.TheVariants.{Mvfs, Mev, Mef, Mekr, Kfmrh, Merge}
use Rattle.euler_laws.specs.Laws.{effects, AreAccepted}

-- some operators, each accepted in its turn, make the second model from the first
pub record OperatorsLead (M N : Model) : Type 0 where
  pub ops : List Op
  pub accepted : AreAccepted M ops
  pub made : effects M ops ≡ N

-- a model is sound exactly if operators make it from the empty one
abbrev pub SoundIsReached : Type 0
SoundIsReached = (M : Model) → Sound M ↔ OperatorsLead empty_model M

-- operators lead from each sound model to each other
abbrev pub SoundIsLinked : Type 0
SoundIsLinked = (M N : Model) → Sound M → Sound N → OperatorsLead M N

-- six of the fifteen operators
abbrev pub IsBuilder : Op → Type 0
IsBuilder (Mvfs s f l v p) = Unit {0}
IsBuilder (Mev c d h v p) = Unit {0}
IsBuilder (Mef g k h f l) = Unit {0}
IsBuilder (Mekr c d h) = Unit {0}
IsBuilder (Kfmrh f g) = Unit {0}
IsBuilder (Merge s t) = Unit {0}
IsBuilder op = ⊥

-- these six are enough to make each sound model from the empty one
abbrev pub BuildersSuffice : Type 0
BuildersSuffice = (M : Model) → Sound M → (w : OperatorsLead empty_model M) × All IsBuilder w.ops
