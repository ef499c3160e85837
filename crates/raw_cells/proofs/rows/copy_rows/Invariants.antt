use Rattle.raw_cells.proofs.Prelude.{◌≡◌, ℕ, ◌<◌, true, length, uses, row_at}
use Rattle.raw_cells.proofs.rows.copy_rows.Given as goal

abbrev pub invariant-rows : goal.invariant-rows
invariant-rows g l = record {
  same : (k : ℕ) → k < l.n → uses l.used k ≡ true → row_at l.copy k ≡ row_at l.cells k;
  len : length l.copy ≡ length l.initial.copy;
}
