-- The laws of glues, each over every sound model and every glue that isn't refused.
use Rattle.std.specs.Prelude.{◌≡◌, ℕ, None}
use Rattle.euler_operators.specs.Common.{Model, Sound}
use Rattle.euler_laws.specs.Laws.{effects, AreAccepted}
use Rattle.shapes.specs.Common.{glue_refusal, glue_model, glue_ops}

-- each operator is accepted in its turn
abbrev pub GluesAreAccepted : Type 0
GluesAreAccepted = (M : Model) (f g : ℕ) → Sound M → glue_refusal M f g ≡ None → AreAccepted M (glue_ops M f g)

-- together they glue the solids
abbrev pub GluesMakeGlued : Type 0
GluesMakeGlued = (M : Model) (f g : ℕ) → Sound M → glue_refusal M f g ≡ None → effects M (glue_ops M f g) ≡ glue_model M f g

abbrev pub GluedAreSound : Type 0
GluedAreSound = (M : Model) (f g : ℕ) → Sound M → glue_refusal M f g ≡ None → Sound (glue_model M f g)
