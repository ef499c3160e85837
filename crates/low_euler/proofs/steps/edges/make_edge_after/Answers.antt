use Rattle.low_euler.proofs.Prelude.{◌≡◌, ℕ, Bool, true, nat_eq, refl, sym, ap, ◌∙◌, subst, eqb-true, At, code, mate, Store, IsStanding, IsLoose, with_edge, put_before}
use Rattle.low_euler.proofs.steps_laws.StoreSteps.{joins_alone, was_put}
use Rattle.low_euler.proofs.steps_laws.EdgeSteps.{first_loose, second_loose}
use Rattle.low_euler.proofs.steps_laws.BothSteps.{mate_loose, half_asks, half_was}
use Rattle.low_euler.proofs.steps.edges.make_edge_after.Goals as goal

-- where the two are the same
one : (x y : ℕ) (b : Bool) → b ≡ nat_eq x y → b ≡ true → y ≡ x
one x y b e is = sym (eqb-true x y (sym e ∙ is))

pub join_alone-requires : goal.join_alone-requires
join_alone-requires c =
    let loose = mate_loose _ _ _ _ _ c.requires.unused (c.requires.apart (one _ _ _ c.same.ensures c.if-same.true)) c.requires.first in
    joins_alone _ _ c.requires.first _ loose _ _ _ c.put_edge.ensures c.requires.last c.mate.ensures

pub join_alone-requires-then-same : goal.join_alone-requires-then-same
join_alone-requires-then-same c =
    let apart = c.requires.apart (one _ _ _ c.same.ensures c.if-same.true) in
    let loose = mate_loose _ _ _ _ _ c.requires.unused apart c.requires.first in
    let put = was_put _ _ c.requires.first _ loose _ _ _ _ c.put_edge.ensures c.requires.last c.mate.ensures c.join_alone.ensures in
    half_asks _ _ _ _ _ c.requires.unused apart c.requires.first _ _ put c.requires.last

pub returns-then-same : goal.returns-then-same
returns-then-same c =
    let same = one _ _ _ c.same.ensures c.if-same.true in
    let loose = mate_loose _ _ _ _ _ c.requires.unused (c.requires.apart same) c.requires.first in
    let put = was_put _ _ c.requires.first _ loose _ _ _ _ c.put_edge.ensures c.requires.last c.mate.ensures c.join_alone.ensures in
    half_was _ _ _ _ _ c.requires.unused (c.requires.apart same) c.requires.first _ _ put c.requires.last _ c.join_alone-then-same.ensures
    ∙ ap (λ k. put_before (put_before (with_edge c.args.arena.now (code c.args.half) c.args.start c.args.end) (code c.args.first) (code c.args.half)) k (mate (code c.args.half))) (sym same)

pub join_alone-requires-else-same : goal.join_alone-requires-else-same
join_alone-requires-else-same c =
    joins_alone _ _ c.requires.first _ (first_loose _ _ _ _ c.requires.unused) _ _ _ c.put_edge.ensures c.requires.last refl

pub put_before-requires : goal.put_before-requires
put_before-requires c =
    let put = was_put _ _ c.requires.first _ (first_loose _ _ _ _ c.requires.unused) _ _ _ _ c.put_edge.ensures c.requires.last refl c.join_alone-else-same.ensures in
    record {
      corner = subst (λ (t : Store). IsStanding t.model (code c.args.second)) (sym put) c.requires.second;
      half = subst (λ t. IsLoose t (code c.mate-else-same.result)) (sym put) (subst (IsLoose _) (sym c.mate-else-same.ensures) (second_loose _ _ _ _ c.requires.unused (At c.args.first)));
    }

pub returns-else-same : goal.returns-else-same
returns-else-same c =
    let put = was_put _ _ c.requires.first _ (first_loose _ _ _ _ c.requires.unused) _ _ _ _ c.put_edge.ensures c.requires.last refl c.join_alone-else-same.ensures in
    c.put_before.ensures ∙ (λ i. put_before (put i) (code c.args.second) (c.mate-else-same.ensures i))
