use Rattle.raw_ring.proofs.Joining.{place_there, has_label}
use Rattle.raw_ring.proofs.table.Table.label.Goals as goal

pub get-requires : goal.get-requires
get-requires c = c.self.invariant.labelled _ (place_there c.self.inside.places c.self.inside.labels c.self.inside.lives _ (rw (← c.self.view_is) at c.requires))

pub returns : goal.returns
returns c = rw (← c.self.view_is) (has_label c.self.inside.places c.self.inside.labels c.self.inside.lives _ (rw (← c.self.view_is) at c.requires) _ c.get.ensures)
