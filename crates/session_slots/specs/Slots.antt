-- The greatest numbers in use before a call, which a slot keeps.
use Rattle.std.specs.Prelude.{◌≡◌, ◌<◌, ◌≤◌, ℕ, Some}
use Rattle.session_slots.specs.Common.Below.{taken_in, taken_of, Counters, Stage, shown, Slot}

-- the greatest numbers in use in the model shown
abbrev pub Counts_in : Slot → Counters → Type 0
Counts_in x n = (g : Stage) → x.console.stage ≡ Some g → taken_of n ≡ taken_in (shown g)

-- those in use before a call are kept; those from before the last call stay after one that the session or draft doesn't have, of which C is told 11 or 12
abbrev pub Notes : Slot → Slot → ℕ → Type 0
Notes old new kind = (kind < 11 → Counts_in old new.before) × (11 ≤ kind → new.before ≡ old.before)
