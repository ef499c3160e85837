use Rattle.std.proofs.Common.{sym, ◌∙◌}
use Rattle.raw_ring.proofs.Joining.{has-joined}
use Rattle.raw_ring.proofs.table.Table.has.Goals as goal

pub returns : goal.returns
returns c = rw (← c.self.view_is) (c.has.ensures ∙ sym (has-joined c.self.inside.places c.self.inside.labels c.self.inside.lives _))
