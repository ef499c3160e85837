use Rattle.raw_cells.proofs.numbers_laws.Cells.{rows_copied}
use Rattle.raw_cells.proofs.rows.Rows.copy.Goals as goal

pub returns : goal.returns
returns g c = rw (← c.self.view_is, c.in_ok-copy.ensures) (rows_copied _ _ _ c.self.invariant _ c.in_ok-moved.ensures.fits c.in_ok-moved.ensures.same)
