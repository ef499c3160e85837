use Rattle.split_drawing_laws.proofs.pairs.Whole.{can_be_drawn, pair_up}
use Rattle.split_drawing_laws.proofs.cut_places_can_be_drawn.Goals as goal

pub returns : goal.returns
returns c = record { drawable = can_be_drawn; paired = pair_up }
