use Rattle.split_laws.proofs.drawn.Drawn.{can_open_all}
use Rattle.split_laws.proofs.sections_can_be_opened.Goals as goal

pub returns : goal.returns
returns c = record { in_turn = can_open_all }
