use Rattle.split_drawing.proofs.Prelude.{◌∙◌, true, false, [], ◌∷◌, map, refl, ap, DraftJournal, after_steps, draw_pair, taken_of, draw_ops, drawing_of, codes, further_on}
use Rattle.split_drawing.proofs.StepsLeft.{others_lead, none_left}
use Rattle.split_drawing.proofs.face_drawing_laws.Turns.{first_pair, told, draw_accepted, drew, got_stuck}
use Rattle.split_drawing.proofs.face_drawing.drawing.draw_pairs.Goals as goal

pub draw_pair-requires-clause-accepted : goal.draw_pair-requires-clause-accepted
draw_pair-requires-clause-accepted c = draw_accepted c.args.f c.pairs.progress c.pairs.draft.model (map codes c.args.pairs.now) c.pairs.rest.now c.in-len1-up.len_at_least c.pairs.invariant.can
    (told c.arena.result.now.model c.pairs.draft.model (codes (first_pair c.pairs.rest.now)) c.in_one_loop.result true c.in_one_loop.ensures c.arena.ensures.model c.if-in_one_loop.true)

pub pairs-preserved-in_ok-taken : goal.pairs-preserved-in_ok-taken
pairs-preserved-in_ok-taken c =
    let next = drew c.args.f c.pairs.progress c.pairs.draft.model (map codes c.args.pairs.now) c.pairs.rest.now c.in-len1-up.len_at_least c.pairs.invariant.can
    (told c.arena.result.now.model c.pairs.draft.model (codes (first_pair c.pairs.rest.now)) c.in_one_loop.result true c.in_one_loop.ensures c.arena.ensures.model c.if-in_one_loop.true)
    c.draw_pair.new.draft.model (ap (λ (d : DraftJournal). d.model) c.in_ok-taken.ensures.ok) c.in_ok-taken.taken c.in_ok-taken.ensures.counted in
    record {
      can = next.0;
      made = next.1 ∙ c.pairs.invariant.made;
      steps = others_lead c.pairs.draft c.draw_pair.new.draft (draw_pair (taken_of c.pairs.progress.taken) (codes (first_pair c.pairs.rest.now)) ∷ []) _ c.in_ok-taken.ensures.ok
          ∙ ap (after_steps c.pairs.draft) next.2 ∙ c.pairs.invariant.steps;
      further = further_on _ _ _ c.pairs.invariant.further c.in_ok-taken.ensures.further;
    }

pub pairs-preserved : goal.pairs-preserved
pairs-preserved c =
    let next = got_stuck c.args.f c.pairs.progress c.pairs.draft.model (map codes c.args.pairs.now) c.pairs.rest.now c.in-len1-up.len_at_least c.pairs.invariant.can
    (told c.arena.result.now.model c.pairs.draft.model (codes (first_pair c.pairs.rest.now)) c.in_one_loop.result false c.in_one_loop.ensures c.arena.ensures.model c.if-in_one_loop.false)
    c.stuck_at-progress.result c.stuck_at-progress.ensures in
    record {
      can = next.0;
      made = next.1 ∙ c.pairs.invariant.made;
      steps = ap (after_steps c.pairs.draft) next.2 ∙ c.pairs.invariant.steps;
      further = c.pairs.invariant.further;
    }

pub returns-clause-steps : goal.returns-clause-steps
returns-clause-steps c = none_left c.pairs.rest.now (λ qs. draw_ops c.args.f (drawing_of c.pairs.progress c.pairs.draft.model (map codes c.args.pairs.now)) (map codes qs)) c.args.draft.now c.pairs.draft _ c.in_default.len_below refl c.pairs.invariant.steps
