use Rattle.split_drawing_laws.proofs.tables.Doubled.{crossings_are_doubled}
use Rattle.split_drawing_laws.proofs.tables.Chords.{drawings_are_cut, rewritings_of_tables}
use Rattle.split_drawing_laws.proofs.rewritings_are_of_tables.Goals as goal

pub returns : goal.returns
returns c = record { doubled = crossings_are_doubled; cut = drawings_are_cut; tables = rewritings_of_tables }
