-- What a sweep adds to the six volumes of a solid, and the six volumes of a block and of a lamina; other solids keep theirs.
use Rattle.std.specs.Prelude.{◌≡◌, ◌≢◌, ℕ, ℤ, pos, ◌+ℤ◌, ◌-ℤ◌, ◌*ℤ◌, true, List, get_or, None}
use Rattle.euler_operators.specs.Common.{Point, dot, Model, no_point, solid_of, Sound}
use Rattle.shapes.specs.Common.{prism_refusal, prism_model, lamina_refusal, lamina_model, lamina_face, block_refusal, block_model, normal, is_flat, six_volume}

-- a sweep adds three times the normal of the face before, along the vector
abbrev pub SweepAdds : Type 0
SweepAdds = (M : Model) (f : ℕ) (d : Point) → Sound M → prism_refusal M f d ≡ None → six_volume (prism_model M f d) (solid_of M f) ≡ six_volume M (solid_of M f) +ℤ pos 3 *ℤ dot (normal M f) d

-- every other solid keeps its own
abbrev pub SweepKeepsOthers : Type 0
SweepKeepsOthers = (M : Model) (f : ℕ) (d : Point) (u : ℕ) → Sound M → prism_refusal M f d ≡ None → u ≢ solid_of M f → six_volume (prism_model M f d) u ≡ six_volume M u

-- the six volumes of a block are six times the product of its sizes
abbrev pub BlockMeasures : Type 0
BlockMeasures = (M : Model) (s : ℕ) (p : Point) (dx dy dz : ℤ) → Sound M → block_refusal M s p dx dy dz ≡ None → six_volume (block_model M s p dx dy dz) s ≡ pos 6 *ℤ dx *ℤ dy *ℤ dz

-- every other solid keeps its own
abbrev pub BlockKeepsOthers : Type 0
BlockKeepsOthers = (M : Model) (s : ℕ) (p : Point) (dx dy dz : ℤ) (u : ℕ) → Sound M → block_refusal M s p dx dy dz ≡ None → u ≢ s → six_volume (block_model M s p dx dy dz) u ≡ six_volume M u

-- the six volumes of a lamina are its first point less its second, along the normal of its first face
abbrev pub LaminaMeasures : Type 0
LaminaMeasures = (M : Model) (s : ℕ) (ps : List Point) → Sound M → lamina_refusal M s ps ≡ None → let N = lamina_model M s ps in let n = normal N (lamina_face M) in
    six_volume N s ≡ dot (get_or ps 0 no_point) n -ℤ dot (get_or ps 1 no_point) n

-- they are nothing if that face is flat
abbrev pub FlatLaminasMeasureNothing : Type 0
FlatLaminasMeasureNothing = (M : Model) (s : ℕ) (ps : List Point) → Sound M → lamina_refusal M s ps ≡ None → let N = lamina_model M s ps in is_flat N (lamina_face M) ≡ true → six_volume N s ≡ pos 0

-- every other solid keeps its own
abbrev pub LaminaKeepsOthers : Type 0
LaminaKeepsOthers = (M : Model) (s : ℕ) (ps : List Point) (u : ℕ) → Sound M → lamina_refusal M s ps ≡ None → u ≢ s → six_volume (lamina_model M s ps) u ≡ six_volume M u
