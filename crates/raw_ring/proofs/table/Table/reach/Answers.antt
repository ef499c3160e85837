use Rattle.std.proofs.Common.{◌≡◌, length, arith}
use Rattle.raw_ring.proofs.Joining.{length-joined}
use Rattle.raw_ring.proofs.table.Table.reach.Goals as goal

pub returns-then-code-len-clause-ok : goal.returns-then-code-len-clause-ok
returns-then-code-len-clause-ok c =
    let len : length c.args.self.now ≡ length c.self.inside.places = rw (← c.self.view_is) (length-joined c.self.inside.places c.self.inside.labels c.self.inside.lives) in omega (arith, len, c.len.ensures, c.if-code-len.true)
