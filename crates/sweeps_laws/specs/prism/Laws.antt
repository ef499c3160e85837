-- The laws of sweeps, each over every sound model and every sweep that isn't refused.
use Rattle.std.specs.Prelude.{◌≡◌, ℕ, None}
use Rattle.euler_operators.specs.Common.{Point, Model, Sound}
use Rattle.euler_laws.specs.Laws.{effects, AreAccepted}
use Rattle.shapes.specs.Common.{prism_refusal, prism_model}
use Rattle.sweeps_laws.specs.prism.SweepOps.{sweep_ops}

-- each operator is accepted in its turn
abbrev pub SweepsAreAccepted : Type 0
SweepsAreAccepted = (M : Model) (f : ℕ) (d : Point) → Sound M → prism_refusal M f d ≡ None → AreAccepted M (sweep_ops M f d)

-- together they make the prism
abbrev pub SweepsMakePrisms : Type 0
SweepsMakePrisms = (M : Model) (f : ℕ) (d : Point) → Sound M → prism_refusal M f d ≡ None → effects M (sweep_ops M f d) ≡ prism_model M f d

abbrev pub PrismsAreSound : Type 0
PrismsAreSound = (M : Model) (f : ℕ) (d : Point) → Sound M → prism_refusal M f d ≡ None → Sound (prism_model M f d)
