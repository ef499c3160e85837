use Rattle.low_euler.proofs.Prelude.{sym, ap, ◌∙◌, subst, code, Store, IsLoose, CanTake, with_edge, put_at}
use Rattle.low_euler.proofs.steps_laws.EdgeSteps.{first_loose, second_loose}
use Rattle.low_euler.proofs.steps.edges.make_edge.Goals as goal

pub put_at-requires : goal.put_at-requires
put_at-requires c = record {
  corner = subst (λ (t : Store). CanTake t.model c.args.first) (sym c.put_edge.ensures) c.requires.first;
  half = subst (λ t. IsLoose t (code c.args.half)) (sym c.put_edge.ensures) (first_loose _ _ _ _ c.requires.unused);
}

pub put_at-requires-2 : goal.put_at-requires-2
put_at-requires-2 c =
    let put = c.put_at.ensures ∙ ap (λ t. put_at t c.args.first (code c.args.half)) c.put_edge.ensures in
    record {
      corner = subst (λ (t : Store). CanTake t.model c.args.second) (sym put) c.requires.second;
      half = subst (λ t. IsLoose t (code c.mate.result)) (sym put) (subst (IsLoose _) (sym c.mate.ensures) (second_loose _ _ _ _ c.requires.unused c.args.first));
    }

pub returns : goal.returns
returns c =
    let put = c.put_at.ensures ∙ ap (λ t. put_at t c.args.first (code c.args.half)) c.put_edge.ensures in
    c.put_at-2.ensures ∙ ap (λ t. put_at t c.args.second (code c.mate.result)) put
    ∙ ap (put_at (put_at (with_edge c.args.arena.now (code c.args.half) c.args.start c.args.end) c.args.first (code c.args.half)) c.args.second) c.mate.ensures
