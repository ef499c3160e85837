use Rattle.split_opening_laws.proofs.sections.InTurn.{can_be_opened, openings_sound, others_on, all_on, none_torn}
use Rattle.split_opening_laws.proofs.cycles_open_in_turn.Goals as goal

pub returns : goal.returns
returns c = record { first = can_be_opened; sound = openings_sound; others = others_on; all = all_on; parted = none_torn }
