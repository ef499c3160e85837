use Rattle.plane_split.proofs.Prelude.{ap, ◌∙◌, on_ok_weaker, DraftJournal, after_steps, step_after, steps_make, taken_of, next_goes, next_taken}
use Rattle.plane_split.proofs.solid_opening_laws.Killed.{joinings_go, partings_left, caps_are}
use Rattle.plane_split.proofs.solid_opening.joinings.make_caps.Goals as goal

pub join_strips-requires-clause-accepted : goal.join_strips-requires-clause-accepted
join_strips-requires-clause-accepted c = joinings_go c.args.draft.now.model (taken_of c.args.from.now) c.args.count c.requires.accepted

pub step_accepted-requires : goal.step_accepted-requires
step_accepted-requires c = next_goes (partings_left c.args.draft.now.model (taken_of c.args.from.now) c.args.count c.requires.accepted c.join_strips.new.draft.model (steps_make _ _ _ c.in_ok-join_strips.ensures.steps) c.plus.result c.plus.ensures)

pub step_accepted-requires-2 : goal.step_accepted-requires-2
step_accepted-requires-2 c =
    let two = partings_left c.args.draft.now.model (taken_of c.args.from.now) c.args.count c.requires.accepted c.join_strips.new.draft.model (steps_make _ _ _ c.in_ok-join_strips.ensures.steps) c.plus.result c.plus.ensures in
    next_goes (next_taken two (ap (λ (d : DraftJournal). d.model) c.in_ok-step_accepted.ensures.ok))

pub returns-clause-steps : goal.returns-clause-steps
returns-clause-steps c =
    on_ok_weaker c.step_accepted-2.result (λ step.
    step_after _ _ _ _ _ (step_after _ _ _ _ _ c.in_ok-join_strips.ensures.steps c.in_ok-step_accepted.ensures.ok) step
    ∙ ap (after_steps c.args.draft.now) (caps_are (taken_of c.args.from.now) c.args.count c.plus.result c.plus.ensures)) c.step_accepted-2.ensures.ok
