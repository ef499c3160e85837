use Rattle.split_drawing_laws.proofs.cut_volumes.CutWhole.{crossings_normals, crossings_planes, crossings_flat, crossings_volumes}
use Rattle.split_drawing_laws.proofs.crossings_keep_volumes.Goals as goal

pub returns : goal.returns
returns c = record { normals = crossings_normals; planes = crossings_planes; flat = crossings_flat; volumes = crossings_volumes }
