use Rattle.std.proofs.Common.{refl}
use Rattle.commands.proofs.making.give_draft.Goals as goal

pub returns : goal.returns
returns c = (record { draft = c.give_in-told.new.draft }, refl, c.give_in-told.ensures)
