use Rattle.shapes.proofs.Common.{face_told, told_anywhere, corner_told}
use Rattle.solid_measure_laws.proofs.flat_faces.Goals as goal

pub returns : goal.returns
returns c = record {
  alike = λ M f s. face_told M s f;
  anywhere = λ M f s. told_anywhere M s f;
  corners = corner_told;
}
