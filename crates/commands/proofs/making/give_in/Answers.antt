use Rattle.std.proofs.Common.{refl}
use Rattle.commands.proofs.making.give_in.Goals as goal

pub returns-in-Undo : goal.returns-in-Undo
returns-in-Undo c = rw c.in-Undo.is (refl, refl)
