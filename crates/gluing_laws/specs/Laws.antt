-- What a glue makes of the six volumes of its two solids.
use Rattle.std.specs.Prelude.{◌≡◌, ◌≢◌, ℕ, ◌+ℤ◌, None}
use Rattle.euler_operators.specs.Common.{Model, solid_of, Sound}
use Rattle.shapes.specs.Common.{six_volume, glue_refusal, glue_model}

-- the six volumes of the glued solid are those of the two solids
abbrev pub GlueAdds : Type 0
GlueAdds = (M : Model) (f g : ℕ) → Sound M → glue_refusal M f g ≡ None → six_volume (glue_model M f g) (solid_of M f) ≡ six_volume M (solid_of M f) +ℤ six_volume M (solid_of M g)

-- every other solid keeps its own
abbrev pub OthersStay : Type 0
OthersStay = (M : Model) (f g u : ℕ) → Sound M → glue_refusal M f g ≡ None → u ≢ solid_of M f → u ≢ solid_of M g → six_volume (glue_model M f g) u ≡ six_volume M u
