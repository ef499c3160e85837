use Rattle.split_drawing.proofs.Prelude.{◌+◌, ◌∙◌, true, false, [], ◌∷◌, map, refl, ap, map-append, DraftJournal, after_steps, join_pair, join_ops, drawing_of, codes, further_on}
use Rattle.split_drawing.proofs.StepsLeft.{others_lead, none_left}
use Rattle.split_drawing.proofs.face_drawing_laws.Turns.{first_pair, told, join_accepted, joined, left_over}
use Rattle.split_drawing.proofs.face_drawing.joining.join_pairs.Goals as goal

pub join_pair-requires-clause-accepted : goal.join_pair-requires-clause-accepted
join_pair-requires-clause-accepted c = join_accepted c.args.f c.pairs.progress c.pairs.draft.model (map codes c.pairs.left.items) c.pairs.rest.now c.in-len1-up.len_at_least c.pairs.invariant.can
    (told c.arena.result.now.model c.pairs.draft.model (codes (first_pair c.pairs.rest.now)) c.in_one_loop.result false c.in_one_loop.ensures c.arena.ensures.model c.if-in_one_loop.false)

pub pairs-preserved-in_ok-push : goal.pairs-preserved-in_ok-push
pairs-preserved-in_ok-push c =
    let next = left_over c.args.f c.pairs.progress c.pairs.draft.model (map codes c.pairs.left.items) c.pairs.rest.now c.in-len1-up.len_at_least c.pairs.invariant.can
    (told c.arena.result.now.model c.pairs.draft.model (codes (first_pair c.pairs.rest.now)) c.in_one_loop.result true c.in_one_loop.ensures c.arena.ensures.model c.if-in_one_loop.true)
    (map codes c.push.new.self.items) (ap (map codes) c.in_ok-push.ensures.items ∙ map-append codes c.pairs.left.items (first_pair c.pairs.rest.now ∷ [])) in
    record {
      can = next.0;
      made = next.1 ∙ c.pairs.invariant.made;
      steps = ap (after_steps c.pairs.draft) next.2 ∙ c.pairs.invariant.steps;
      further = c.pairs.invariant.further;
    }

pub pairs-preserved : goal.pairs-preserved
pairs-preserved c =
    let next = joined c.args.f c.pairs.progress c.pairs.draft.model (map codes c.pairs.left.items) c.pairs.rest.now c.in-len1-up.len_at_least c.pairs.invariant.can
    (told c.arena.result.now.model c.pairs.draft.model (codes (first_pair c.pairs.rest.now)) c.in_one_loop.result false c.in_one_loop.ensures c.arena.ensures.model c.if-in_one_loop.false)
    c.join_pair.new.draft.model (ap (λ (d : DraftJournal). d.model) c.in_ok-taken.ensures.ok) c.in_ok-taken.taken c.in_ok-taken.ensures.counted in
    record {
      can = next.0;
      made = next.1 ∙ c.pairs.invariant.made;
      steps = others_lead c.pairs.draft c.join_pair.new.draft (join_pair c.pairs.draft.model (codes (first_pair c.pairs.rest.now)) (c.pairs.progress.taken.edges + 1) ∷ []) _ c.in_ok-taken.ensures.ok
          ∙ ap (after_steps c.pairs.draft) next.2 ∙ c.pairs.invariant.steps;
      further = further_on _ _ _ c.pairs.invariant.further c.in_ok-taken.ensures.further;
    }

pub returns-clause-steps : goal.returns-clause-steps
returns-clause-steps c = none_left c.pairs.rest.now (λ qs. join_ops (drawing_of c.pairs.progress c.pairs.draft.model (map codes c.pairs.left.items)) (map codes qs)) c.args.draft.now c.pairs.draft _ c.in_default.len_below refl c.pairs.invariant.steps
