-- Lamina, block and sweep as commands of the plain machine.
use Rattle.std.specs.Prelude.{ℕ, ℤ, List, Option}
use Rattle.euler_operators.specs.Common.{Point}
use Rattle.euler_operators.specs.declared.Refusal.{Refusal}
use Rattle.shapes.specs.Lamina as laminas
use Rattle.shapes.specs.Common.{lamina_model, block_model, prism_refusal, prism_model}
use Rattle.shapes.specs.Block as blocks
use Rattle.undo_journal.specs.Machine.{Machine, held, accepted}

-- the new solid s with the points ps
abbrev pub lamina_refusal : Machine → ℕ → List Point → Option Refusal
lamina_refusal m s ps = laminas.lamina_refusal (held m) s ps

abbrev pub lamina : Machine → ℕ → List Point → Machine
lamina m s ps = accepted m (lamina_model (held m) s ps)

-- the new solid s with the corner p, by its sizes along x, y and z
abbrev pub block_refusal : Machine → ℕ → Point → ℤ → ℤ → ℤ → Option Refusal
block_refusal m s p dx dy dz = blocks.block_refusal (held m) s p dx dy dz

abbrev pub block : Machine → ℕ → Point → ℤ → ℤ → ℤ → Machine
block m s p dx dy dz = accepted m (block_model (held m) s p dx dy dz)

-- face f swept along d
abbrev pub sweep_refusal : Machine → ℕ → Point → Option Refusal
sweep_refusal m f d = prism_refusal (held m) f d

abbrev pub sweep : Machine → ℕ → Point → Machine
sweep m f d = accepted m (prism_model (held m) f d)
