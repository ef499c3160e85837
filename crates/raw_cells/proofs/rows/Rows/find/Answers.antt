use Rattle.std.proofs.Common.{sym, ◌∙◌}
use Rattle.raw_cells.proofs.numbers_laws.Cells.{row_found, row_not}
use Rattle.raw_cells.proofs.rows.Rows.find.Goals as goal

pub returns-then-contains : goal.returns-then-contains
returns-then-contains g c = rw (← c.self.view_is) (sym (row_found _ _ _ c.self.invariant c.args.number (sym c.contains.ensures ∙ c.if-contains.true) ∙ c.get.ensures))

pub returns-else-contains : goal.returns-else-contains
returns-else-contains g c = rw (← c.self.view_is) (sym (row_not _ _ _ c.self.invariant c.args.number (sym c.contains.ensures ∙ c.if-contains.false)))
