use Rattle.lattice.proofs.Orders.{less_is, greater_is}
use Rattle.lattice.proofs.points.lex_cmp.Goals as goal

pub returns-clause-less : goal.returns-clause-less
returns-clause-less c = rw (c.then-2.ensures, c.then.ensures, c.cmp.ensures, c.cmp-2.ensures, c.cmp-3.ensures) (less_is c.args.p c.args.q)

pub returns-clause-greater : goal.returns-clause-greater
returns-clause-greater c = rw (c.then-2.ensures, c.then.ensures, c.cmp.ensures, c.cmp-2.ensures, c.cmp-3.ensures) (greater_is c.args.p c.args.q)
