use Rattle.split_opening_laws.proofs.opening.Whole.{raised_strips, capped_is_open, opening_accepted, opening_made, opened_sound}
use Rattle.split_opening_laws.proofs.cycles_open_solids.Goals as goal

pub returns : goal.returns
returns c = record { strips = raised_strips; capped = capped_is_open; accepted = opening_accepted; made = opening_made; sound = opened_sound }
