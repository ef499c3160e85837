use Rattle.raw_cells.proofs.numbers_laws.Cells.{last_row}
use Rattle.raw_cells.proofs.rows.Rows.last.Goals as goal

pub returns : goal.returns
returns g c = rw (← c.self.view_is) (last_row _ _ _ c.self.invariant _ c.last.ensures)
