-- Lamina, block and sweep are calls of a history.
use Rattle.std.specs.Prelude.{◌≡◌, ℕ, ℤ, List, None}
use Rattle.euler_operators.specs.Common.{Point, Sound}
use Rattle.sweeps_laws.specs.block.BlockOps.{block_operators}
use Rattle.sweeps_laws.specs.lamina.Path.{lamina_operators}
use Rattle.sweeps_laws.specs.prism.SweepOps.{sweep_ops}
use Rattle.undo_journal.specs.Machine.{Machine, held}
use Rattle.undo_journal.specs.Histories.{made, after_call}
use Rattle.sweeps.specs.Machine.{lamina, lamina_refusal, block, block_refusal, sweep, sweep_refusal}

-- each of these that isn't refused is the larger command of its operators
abbrev pub LaminasAreCalls : Type 0
LaminasAreCalls = (m : Machine) (s : ℕ) (ps : List Point) → Sound (held m) → lamina_refusal m s ps ≡ None → after_call m (made (lamina_operators (held m) s ps)) ≡ lamina m s ps

abbrev pub SweepsAreCalls : Type 0
SweepsAreCalls = (m : Machine) (f : ℕ) (d : Point) → Sound (held m) → sweep_refusal m f d ≡ None → after_call m (made (sweep_ops (held m) f d)) ≡ sweep m f d

abbrev pub BlocksAreCalls : Type 0
BlocksAreCalls = (m : Machine) (s : ℕ) (p : Point) (dx dy dz : ℤ) → Sound (held m) → block_refusal m s p dx dy dz ≡ None → after_call m (made (block_operators (held m) s p dx dy dz)) ≡ block m s p dx dy dz
