use Rattle.std.proofs.Common.{sym, ◌∙◌}
use Rattle.raw_ring.proofs.Joining.{length-joined}
use Rattle.raw_ring.proofs.table.Table.len.Goals as goal

pub returns : goal.returns
returns c = rw (← c.self.view_is) (c.len.ensures ∙ sym (length-joined c.self.inside.places c.self.inside.labels c.self.inside.lives))
