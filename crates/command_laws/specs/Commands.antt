-- What a call that was answered Ok says of the machines before and after it: no condition was false, and one accepted command leads from the one to
-- the other.
use Rattle.std.specs.Prelude.{◌≡◌, ℕ, ℤ, List, None}
use Rattle.euler_operators.specs.Common.{Point}
use Rattle.undo_journal.specs.Machine.{Machine}
use Rattle.sweeps.specs.Machine.{lamina, lamina_refusal, block, block_refusal, sweep, sweep_refusal}
use Rattle.gluing.specs.Machine.{glue, glue_refusal}

abbrev pub IsLamina : Machine → Machine → ℕ → List Point → Type 0
IsLamina before after s ps = (lamina_refusal before s ps ≡ None) × (after ≡ lamina before s ps)

abbrev pub IsBlock : Machine → Machine → ℕ → Point → ℤ → ℤ → ℤ → Type 0
IsBlock before after s p dx dy dz = (block_refusal before s p dx dy dz ≡ None) × (after ≡ block before s p dx dy dz)

abbrev pub IsSweep : Machine → Machine → ℕ → Point → Type 0
IsSweep before after f d = (sweep_refusal before f d ≡ None) × (after ≡ sweep before f d)

abbrev pub IsGlue : Machine → Machine → ℕ → ℕ → Type 0
IsGlue before after f g = (glue_refusal before f g ≡ None) × (after ≡ glue before f g)
