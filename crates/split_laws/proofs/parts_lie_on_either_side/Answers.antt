use Rattle.split_laws.proofs.measures.Parts.{on_either_side, none_is_lone, vertices_sided}
use Rattle.split_laws.proofs.parts_lie_on_either_side.Goals as goal

pub returns : goal.returns
returns c = record { sides = on_either_side; lone = none_is_lone; vertices = vertices_sided }
