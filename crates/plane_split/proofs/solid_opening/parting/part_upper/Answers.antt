use Rattle.plane_split.proofs.Prelude.{◌∙◌, ◌++◌, ap, on_ok_weaker, after_steps, step_after, steps_make, outer_uppers, next_goes}
use Rattle.plane_split.proofs.solid_opening_laws.Closed.{closings_go, part_left, upper_ops_are}
use Rattle.plane_split.proofs.solid_opening.parting.part_upper.Goals as goal

pub close_holes-requires : goal.close_holes-requires
close_holes-requires c = closings_go c.args.draft.now.model c.args.s c.args.upper c.args.above.items c.args.caps.now c.outer_caps.result c.outer_caps.ensures c.requires

pub step_accepted-requires : goal.step_accepted-requires
step_accepted-requires c =
    let faces = c.in_ok-push_outer.ensures ∙ ap (λ fs. fs ++ outer_uppers c.args.caps.now) c.of-faces.ensures in
    next_goes (part_left c.args.draft.now.model c.args.s c.args.upper c.args.above.items c.args.caps.now c.outer_caps.result c.outer_caps.ensures c.requires c.close_holes.new.draft.model (steps_make _ _ _ c.in_ok-close_holes.ensures.steps) c.push_outer.new.list faces)

pub returns-clause-steps : goal.returns-clause-steps
returns-clause-steps c =
    let faces = c.in_ok-push_outer.ensures ∙ ap (λ fs. fs ++ outer_uppers c.args.caps.now) c.of-faces.ensures in
    on_ok_weaker c.step_accepted.result (λ step.
    step_after _ _ _ _ _ c.in_ok-close_holes.ensures.steps step
    ∙ ap (after_steps c.args.draft.now) (upper_ops_are c.args.s c.args.upper c.args.above.items c.args.caps.now c.outer_caps.result c.outer_caps.ensures c.push_outer.new.list faces)) c.step_accepted.ensures.ok
