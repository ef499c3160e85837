use Rattle.shapes.proofs.Common.{area_back}
use Rattle.solid_measure_laws.proofs.Moved.{normal_turned, normal_opposed, volume_inverted}
use Rattle.solid_measure_laws.proofs.turned_loops.Goals as goal

pub returns : goal.returns
returns c = record {
  paths = area_back;
  opposed = normal_opposed;
  faces = normal_turned;
  inside_out = λ M s sound. volume_inverted M sound s;
}
