use Rattle.std.proofs.Common.{rules}
use Rattle.undo_journal.proofs.session.Session.act.Goals as goal

pub returns-in-Ok-clause-ok : goal.returns-in-Ok-clause-ok
returns-in-Ok-clause-ok c = (search rules, c.in-Ok.ensures.ok)
