use Rattle.split_drawing_laws.proofs.drawings.Whole.{drawing_accepted, drawing_made, drawing_sound, drawing_stays}
use Rattle.split_drawing_laws.proofs.drawings_are_made.Goals as goal

pub returns : goal.returns
returns c = record { accepted = drawing_accepted; made = drawing_made; sound = drawing_sound; kept = drawing_stays }
