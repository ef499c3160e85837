use Rattle.split_drawing_laws.proofs.drawn_volumes.DrawWhole.{drawn_lies, drawings_volumes}
use Rattle.split_drawing_laws.proofs.drawings_keep_volumes.Goals as goal

pub returns : goal.returns
returns c = record { planes = drawn_lies; volumes = drawings_volumes }
