use Rattle.split_laws.proofs.opened.InTurn.{openings_keep, openings_lie, opening_keeps}
use Rattle.split_laws.proofs.openings_keep_volumes.Goals as goal

pub returns : goal.returns
returns c = record { one = opening_keeps; all = openings_keep; caps = openings_lie }
