use Rattle.raw_cells.proofs.numbers_laws.Cells.{row_written, row_known}
use Rattle.raw_cells.proofs.rows.Rows.known.Goals as goal

pub get-requires : goal.get-requires
get-requires g c = row_written _ _ _ c.self.invariant c.args.number (rw (← c.self.view_is) at c.requires)

pub returns : goal.returns
returns g c = rw (← c.self.view_is) (row_known _ _ _ c.self.invariant c.args.number _ (rw (← c.self.view_is) at c.requires) c.get.ensures)
