use Rattle.std.proofs.Common.{None, refl, subst}
use Rattle.std.specs.Fn.{FnOnceReturnsAt}
use Rattle.command_line.specs.Endings.{IsTold}
use Rattle.command_line.proofs.ending.complain.Goals as goal

pub returns-in-Some : goal.returns-in-Some
returns-in-Some g c = subst (λ complaint. IsTold c.args.tell (λ line. FnOnceReturnsAt g.T.FnOnce c.args.tell line tt) complaint None) c.in-Some.ensures (c.in-Some.line, c.tell.ensures, refl)
