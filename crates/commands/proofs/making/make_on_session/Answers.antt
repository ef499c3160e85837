use Rattle.std.proofs.Common.{refl}
use Rattle.commands.proofs.making.make_on_session.Goals as goal

pub returns-in-Give : goal.returns-in-Give
returns-in-Give c = rw c.in-Give.is (c.give-session.result.0, refl, c.give-session.ensures)
