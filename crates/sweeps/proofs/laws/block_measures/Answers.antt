use Rattle.sweeps.proofs.Prelude.{ap, ◌∙◌, held, six_volume, block_volume, block_keeps_others}
use Rattle.sweeps.proofs.laws.block_measures.Goals as goal

pub returns : goal.returns
returns c = record {
  solid = λ s t n p dx dy dz sound goes is. ap (λ N. six_volume N n) (ap held is) ∙ block_volume (held s) n p dx dy dz sound goes;
  others = λ s t n p dx dy dz u sound goes is ne. ap (λ N. six_volume N u) (ap held is) ∙ block_keeps_others (held s) n p dx dy dz u sound goes ne;
}
