use Rattle.std.proofs.Common.{sym, ◌∙◌}
use Rattle.raw_cells.proofs.numbers_laws.Cells.{has_used}
use Rattle.raw_cells.proofs.rows.Rows.has.Goals as goal

pub returns : goal.returns
returns g c = rw (← c.self.view_is) (c.contains.ensures ∙ sym (has_used _ _ _ c.self.invariant c.args.number))
