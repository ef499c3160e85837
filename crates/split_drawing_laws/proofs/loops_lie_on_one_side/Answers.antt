use Rattle.split_drawing_laws.proofs.loop_sides.SidesWhole.{loops_on_one_side}
use Rattle.split_drawing_laws.proofs.loops_lie_on_one_side.Goals as goal

pub returns : goal.returns
returns c = record { sides = loops_on_one_side }
