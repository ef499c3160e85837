use Rattle.split_drawing_laws.proofs.crossings.Whole.{crossings_accepted, crossings_made, crossings_sound, crossings_counted}
use Rattle.split_drawing_laws.proofs.operators_cut_crossings.Goals as goal

pub returns : goal.returns
returns c = record { accepted = crossings_accepted; made = crossings_made; sound = crossings_sound; counted = crossings_counted }
