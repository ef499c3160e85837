use Rattle.split_drawing_laws.proofs.half_sides.PlaceEnds.{take_sides}
use Rattle.split_drawing_laws.proofs.half_edges_take_sides.Goals as goal

pub returns : goal.returns
returns c = record { sides = take_sides }
