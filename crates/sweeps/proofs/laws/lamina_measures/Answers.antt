use Rattle.sweeps.proofs.Prelude.{◌≡◌, pos, ◌-ℤ◌, true, sym, ap, subst, ◌∙◌, get_or, dot, no_point, held, lamina_face, normal, is_flat, six_volume, lamina_measures, flat_laminas_measure_nothing, lamina_keeps_others}
use Rattle.sweeps.proofs.laws.lamina_measures.Goals as goal

pub returns : goal.returns
returns c = record {
  solid = λ s t n ps sound goes is.
      subst (λ N. six_volume N n ≡ dot (get_or ps 0 no_point) (normal N (lamina_face (held s))) -ℤ dot (get_or ps 1 no_point) (normal N (lamina_face (held s)))) (sym (ap held is)) (lamina_measures (held s) n ps sound goes);
  flat = λ s t n ps sound goes is. subst (λ N. is_flat N (lamina_face (held s)) ≡ true → six_volume N n ≡ pos 0) (sym (ap held is)) (flat_laminas_measure_nothing (held s) n ps sound goes);
  others = λ s t n ps u sound goes is ne. ap (λ N. six_volume N u) (ap held is) ∙ lamina_keeps_others (held s) n ps u sound goes ne;
}
