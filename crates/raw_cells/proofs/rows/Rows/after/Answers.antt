use Rattle.raw_cells.proofs.numbers_laws.Cells.{next_row}
use Rattle.raw_cells.proofs.rows.Rows.after.Goals as goal

pub returns : goal.returns
returns g c = rw (← c.self.view_is) (next_row _ _ _ c.self.invariant _ _ c.after.ensures)
