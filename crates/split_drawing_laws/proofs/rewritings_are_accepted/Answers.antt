use Rattle.split_drawing_laws.proofs.pairs.Whole.{rewritings_accepted, rewritings_made, rewritings_sound}
use Rattle.split_drawing_laws.proofs.rewritings_are_accepted.Goals as goal

pub returns : goal.returns
returns c = record { accepted = rewritings_accepted; made = rewritings_made; sound = rewritings_sound }
