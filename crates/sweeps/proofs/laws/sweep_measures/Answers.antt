use Rattle.sweeps.proofs.Prelude.{ap, ◌∙◌, solid_of, held, six_volume}
use Rattle.sweeps_laws.proofs.Whole.{sweep_adds, sweep_keeps_others}
use Rattle.sweeps.proofs.laws.sweep_measures.Goals as goal

pub returns : goal.returns
returns c = record {
  solid = λ s t f d sound goes is. ap (λ N. six_volume N (solid_of (held s) f)) (ap held is) ∙ sweep_adds (held s) f d sound goes;
  others = λ s t f d u sound goes is ne. ap (λ N. six_volume N u) (ap held is) ∙ sweep_keeps_others (held s) f d u sound goes ne;
}
