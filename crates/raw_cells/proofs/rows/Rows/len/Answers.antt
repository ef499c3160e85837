use Rattle.std.proofs.Common.{sym}
use Rattle.raw_cells.proofs.numbers_laws.Cells.{length_rows}
use Rattle.raw_cells.proofs.rows.Rows.len.Goals as goal

pub returns : goal.returns
returns g c = rw (← c.self.view_is) (sym (length_rows _ _ _ c.self.invariant))
