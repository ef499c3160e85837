use Rattle.split_drawing.proofs.Prelude.{◌∙◌, ap, subst, sym, Model, rings_above, with_rings, AreSides, noted_still, ring_ops, ring_rows, after_steps, steps_make}
use Rattle.euler_operators.specs.Table as table
use Rattle.split_drawing.proofs.solid_drawing_laws.RingSteps.{rings_given}
use Rattle.split_drawing.proofs.solid_drawing.rings.share_rings.Goals as goal

pub returns-clause-steps : goal.returns-clause-steps
returns-clause-steps c =
    let are = c.as_slice.ensures.value ∙ c.in_ok-rings.ensures.rings ∙ ap (λ X. rings_above X c.args.plane c.args.f) c.arena.ensures.model in
    c.in_ok-move_rings.ensures.steps ∙ ap (λ ls. after_steps c.args.draft.now (ring_ops ls c.args.to)) are

pub returns-clause-sides : goal.returns-clause-sides
returns-clause-sides c =
    let M = c.args.draft.now.model in let p = c.args.plane in let sides = c.rings_above.new.sides in let ls = c.as_slice.result.now in
    let made = steps_make _ _ _ c.in_ok-move_rings.ensures.steps ∙ rings_given M ls c.args.to in
    subst (λ (X : Model). AreSides X p sides) (sym made) (noted_still M (with_rings M ls c.args.to) p (λ v _. ap (λ X. table.get X.vertices v) (ring_rows M ls c.args.to)) sides.noted (subst (λ (X : Model). AreSides X p sides) c.arena.ensures.model c.rings_above.ensures.sides))
