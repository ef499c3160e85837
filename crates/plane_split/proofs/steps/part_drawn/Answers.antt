use Rattle.plane_split.proofs.Prelude.{◌∙◌, refl, ap, on_ok_weaker, after_steps, steps_after, all_caps}
use Rattle.plane_split.proofs.Parted.{section_opens, upper_leads, later_ops_are}
use Rattle.plane_split.proofs.steps.part_drawn.Goals as goal

pub open_section-requires-clause-opens : goal.open_section-requires-clause-opens
open_section-requires-clause-opens c = section_opens c.args.draft.now.model c.args.drawn.now c.args.s c.args.plane.now c.args.upper c.args.section c.requires.drawn c.requires.section

pub part_upper-requires : goal.part_upper-requires
part_upper-requires c =
    let opened = c.in_ok-caps.ensures.opened in
    (upper_leads c.args.draft.now.model c.args.drawn.now c.args.s c.args.plane.now c.args.upper c.args.section c.requires.drawn c.requires.section
    c.open_section.new.draft.model c.args.section.above.items (all_caps c.as_slice.result.now) opened.0 refl (ap all_caps c.as_slice.ensures.value ∙ opened.1)).accepted

pub returns-clause-steps : goal.returns-clause-steps
returns-clause-steps c =
    let all = later_ops_are c.args.draft.now.model c.args.drawn.now c.args.s c.args.plane.now c.args.upper c.args.section c.requires.drawn c.requires.section
    c.args.section.above.items (all_caps c.as_slice.result.now) refl (ap all_caps c.as_slice.ensures.value ∙ c.in_ok-caps.ensures.opened.1) in
    on_ok_weaker c.part_upper.result (λ steps. steps_after _ _ _ _ _ c.in_ok-caps.ensures.steps steps ∙ ap (after_steps c.args.draft.now) all) c.part_upper.ensures.steps
