use Rattle.solid_measure_laws.proofs.Moved.{normal_kept, volume_moved, normals_close, volume_kept}
use Rattle.solid_measure_laws.proofs.moved_solids_keep_volumes.Goals as goal

pub returns : goal.returns
returns c = record {
  faces = λ M d f sound. normal_kept M d sound f;
  grown = λ M d s sound. volume_moved M d sound s;
  closed = λ M s sound. normals_close M sound s;
  kept = λ M d s sound. volume_kept M sound s d;
}
