use Rattle.split_drawing.proofs.Prelude.{[], ◌∷◌, refl, ap, ◌∙◌, slice_index_or, RingIn, ring_ops, DraftJournal, after_steps, further_on}
use Rattle.split_drawing.proofs.StepsLeft.{others_lead, none_left}
use Rattle.split_drawing.proofs.face_drawing_laws.GivenRings.{ring_goes, rings_go, ring_and_others}
use Rattle.split_drawing.proofs.face_drawing.rings.move_rings.Goals as goal

pub step_accepted-requires : goal.step_accepted-requires
step_accepted-requires c = ring_goes c.rings.draft.model c.args.to c.rings.rest.now _ c.in-len1-up.len_at_least c.rings.invariant.accepted

pub rings-preserved : goal.rings-preserved
rings-preserved c =
    let rest = c.rings.rest.now in let to = c.args.to in
    record {
      accepted = rings_go c.rings.draft.model to rest _ c.in-len1-up.len_at_least c.rings.invariant.accepted c.step_accepted.new.self.model (ap (λ (d : DraftJournal). d.model) c.in_ok-step_accepted.ensures.ok);
      steps = others_lead c.rings.draft c.step_accepted.new.self (RingIn (slice_index_or rest 0 0) to ∷ []) _ c.in_ok-step_accepted.ensures.ok
          ∙ ap (after_steps c.rings.draft) (ring_and_others rest to 0 c.in-len1-up.len_at_least)
          ∙ c.rings.invariant.steps;
      further = further_on _ _ _ c.rings.invariant.further c.in_ok-step_accepted.ensures.further;
    }

pub returns-clause-steps : goal.returns-clause-steps
returns-clause-steps c = none_left c.rings.rest.now (λ ls. ring_ops ls c.args.to) c.args.draft.now c.rings.draft _ c.in_default.len_below refl c.rings.invariant.steps
