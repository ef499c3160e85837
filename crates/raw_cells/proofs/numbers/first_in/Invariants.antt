use Rattle.raw_cells.proofs.Prelude.{◌≡◌, ◌≤◌, ◌<◌, ℕ, false, has_bits}
use Rattle.raw_cells.proofs.numbers.first_in.Given as goal

abbrev pub invariant-loop-i : goal.invariant-loop-i
invariant-loop-i l = (k : ℕ) → l.from ≤ k → k < l.i → has_bits l.words k ≡ false
