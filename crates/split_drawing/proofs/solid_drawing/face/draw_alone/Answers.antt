use Rattle.split_drawing.proofs.Prelude.{◌∙◌, ap, rings_above, DraftJournal, after_steps, steps_make}
use Rattle.split_drawing.proofs.StepsLeft.{others_lead}
use Rattle.split_drawing.proofs.solid_drawing_laws.OneFace.{lone_accepted, lone_there, lone_noted, lone_rings, lone_shared, lone_steps}
use Rattle.split_drawing.proofs.solid_drawing_laws.RingSteps.{rings_given}
use Rattle.split_drawing.proofs.solid_drawing.face.draw_alone.Goals as goal

pub draw_pair-requires-clause-accepted : goal.draw_pair-requires-clause-accepted
draw_pair-requires-clause-accepted c = lone_accepted c.args.plane c.args.f c.args.pair c.args.from c.args.draft.now.model c.requires.can

pub share_rings-requires-clause-sides : goal.share_rings-requires-clause-sides
share_rings-requires-clause-sides c = lone_noted c.args.plane c.args.f c.args.pair c.args.from c.args.draft.now.model c.requires.can
    c.draw_pair.new.draft.model (ap (λ (d : DraftJournal). d.model) c.in_ok-taken.ensures.ok) c.in_ok-taken.taken c.in_ok-taken.ensures.counted c.args.sides.now.noted c.requires.sides

pub share_rings-requires-clause-there : goal.share_rings-requires-clause-there
share_rings-requires-clause-there c = lone_there c.args.plane c.args.f c.args.pair c.args.from c.args.draft.now.model c.requires.can
    c.draw_pair.new.draft.model (ap (λ (d : DraftJournal). d.model) c.in_ok-taken.ensures.ok) c.in_ok-taken.taken c.in_ok-taken.ensures.counted

pub share_rings-requires-clause-accepted : goal.share_rings-requires-clause-accepted
share_rings-requires-clause-accepted c = lone_rings c.args.plane c.args.f c.args.pair c.args.from c.args.draft.now.model c.requires.can
    c.draw_pair.new.draft.model (ap (λ (d : DraftJournal). d.model) c.in_ok-taken.ensures.ok) c.in_ok-taken.taken c.in_ok-taken.ensures.counted

pub returns-clause-drawn : goal.returns-clause-drawn
returns-clause-drawn c = lone_shared c.args.plane c.args.f c.args.pair c.args.from c.args.draft.now.model c.requires.can
    c.draw_pair.new.draft.model (ap (λ (d : DraftJournal). d.model) c.in_ok-taken.ensures.ok) c.in_ok-taken.taken c.in_ok-taken.ensures.counted c.share_rings.new.draft.model
    (steps_make _ _ _ c.in_ok-share_rings.ensures.steps ∙ rings_given c.draw_pair.new.draft.model (rings_above c.draw_pair.new.draft.model c.args.plane c.args.f) c.in_ok-taken.taken.faces)

pub returns-clause-steps : goal.returns-clause-steps
returns-clause-steps c = c.in_ok-share_rings.ensures.steps ∙ others_lead c.args.draft.now c.draw_pair.new.draft _ _ c.in_ok-taken.ensures.ok
    ∙ ap (after_steps c.args.draft.now) (lone_steps c.args.plane c.args.f c.args.pair c.args.from c.args.draft.now.model c.requires.can
    c.draw_pair.new.draft.model (ap (λ (d : DraftJournal). d.model) c.in_ok-taken.ensures.ok) c.in_ok-taken.taken c.in_ok-taken.ensures.counted)
