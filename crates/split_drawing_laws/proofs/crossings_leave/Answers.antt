use Rattle.split_drawing_laws.proofs.crossings.Whole.{crossings_keep, none_crosses, tails_stay, at_place}
use Rattle.split_drawing_laws.proofs.crossings_leave.Goals as goal

pub returns : goal.returns
returns c = record { kept = crossings_keep; cleared = none_crosses; starts = at_place; tails = tails_stay }
