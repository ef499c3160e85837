use Rattle.raw_cells.proofs.numbers_laws.Cells.{no_cells}
use Rattle.raw_cells.proofs.rows.Rows.new.Goals as goal

pub invariant_of-result : goal.invariant_of-result
invariant_of-result g c = no_cells _ _ c.new-2.ensures
