use Rattle.raw_cells.proofs.Prelude.{◌≡◌, ◌≤◌, ◌<◌, ℕ, false, length, has_bits}
use Rattle.raw_cells.proofs.numbers.last_sought.Given as goal

abbrev pub invariant-down : goal.invariant-down
invariant-down l = record {
  most : l.i ≤ length l.words;
  none : (k : ℕ) → l.i ≤ k → k < length l.words → has_bits l.words k ≡ false;
}

abbrev pub decreases-down : goal.decreases-down
decreases-down l = l.i
