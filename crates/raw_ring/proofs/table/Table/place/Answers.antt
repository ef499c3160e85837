use Rattle.raw_ring.proofs.Joining.{place_there, lies_at}
use Rattle.raw_ring.proofs.table.Table.place.Goals as goal

pub known-requires : goal.known-requires
known-requires c = place_there c.self.inside.places c.self.inside.labels c.self.inside.lives _ (rw (← c.self.view_is) at c.requires)

pub returns : goal.returns
returns c = rw (← c.self.view_is) (lies_at c.self.inside.places c.self.inside.labels c.self.inside.lives _ _ c.known.ensures)
