use Rattle.std.proofs.Common.{sym, ◌∙◌}
use Rattle.raw_ring.proofs.Joining.{found_row, found_none}
use Rattle.raw_ring.proofs.table.Table.find.Goals as goal

pub returns-in-Some : goal.returns-in-Some
returns-in-Some c = rw (← c.self.view_is) (found_row c.self.inside.places c.self.inside.labels c.self.inside.lives _ _ _ _ (sym c.find.ensures ∙ c.in-Some.is) c.get.ensures c.get-in-Some.ensures)

pub returns-in-None : goal.returns-in-None
returns-in-None c = rw (← c.self.view_is) (found_none c.self.inside.places c.self.inside.labels c.self.inside.lives _ (sym c.find.ensures ∙ c.in-None.is))
