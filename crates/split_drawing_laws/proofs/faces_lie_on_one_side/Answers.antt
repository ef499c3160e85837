use Rattle.split_drawing_laws.proofs.face_sides.Begun.{loops_lie, none_straddles, none_lone}
use Rattle.split_drawing_laws.proofs.faces_lie_on_one_side.Goals as goal

pub returns : goal.returns
returns c = record { loops = loops_lie; faces = none_straddles; lone = none_lone }
