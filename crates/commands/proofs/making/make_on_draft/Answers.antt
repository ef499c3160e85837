use Rattle.commands.proofs.Prelude.{ap, refl, Session}
use Rattle.commands.proofs.making.make_on_draft.Goals as goal

pub returns-in-Abandon : goal.returns-in-Abandon
returns-in-Abandon c = rw c.in-Abandon.is (refl, ap Session c.abandon.ensures)
