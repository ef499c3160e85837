use Rattle.split_drawing.proofs.Prelude.{◌∙◌, [], map, refl, ap, slice_index_or, after_steps, codes, paired, drawing_of, ops_from, others, parts, further_on}
use Rattle.split_drawing.proofs.solid_drawing_laws.FaceTurns.{no_pairs, enough_here, enough_later, can_draw, can_go_on, made_on, ops_on}
use Rattle.split_drawing.proofs.StepsLeft.{others_lead, none_left}
use Rattle.split_drawing.proofs.solid_drawing.solid.draw_faces.Goals as goal

pub split_at-requires : goal.split_at-requires
split_at-requires c =
    let rest = c.faces.rest.now in
    enough_here rest c.faces.later.now c.faces.invariant.enough (slice_index_or rest 0 no_pairs) (others rest)
    (parts rest no_pairs c.in-len1-up.len_at_least)

pub draw_face-requires-clause-can : goal.draw_face-requires-clause-can
draw_face-requires-clause-can c =
    let rest = c.faces.rest.now in
    can_draw c.args.plane c.faces.progress c.faces.draft.model rest c.faces.later.now c.faces.invariant.can (slice_index_or rest 0 no_pairs) (others rest)
    (parts rest no_pairs c.in-len1-up.len_at_least) c.split_at.result.0.now c.split_at.result.1.now c.split_at.ensures.front c.split_at.ensures.back

pub faces-preserved : goal.faces-preserved
faces-preserved c =
    let rest = c.faces.rest.now in let later = c.faces.later.now in
    let opened = parts rest no_pairs c.in-len1-up.len_at_least in
    record {
      sides = c.in_ok-progress.ensures.sides;
      enough = enough_later rest later c.faces.invariant.enough (slice_index_or rest 0 no_pairs) (others rest) opened c.split_at.result.1.now c.split_at.ensures.back;
      can = can_go_on c.args.plane c.faces.progress c.faces.draft.model rest later c.faces.invariant.can (slice_index_or rest 0 no_pairs) (others rest) opened c.split_at.result.0.now c.split_at.result.1.now
          c.split_at.ensures.front c.split_at.ensures.back c.in_ok-progress.progress c.draw_face.new.draft.model c.in_ok-progress.ensures.drawn;
      made = made_on c.args.plane c.faces.progress c.faces.draft.model rest later c.faces.invariant.can (slice_index_or rest 0 no_pairs) (others rest) opened c.split_at.result.0.now c.split_at.result.1.now
          c.split_at.ensures.front c.split_at.ensures.back c.in_ok-progress.progress c.draw_face.new.draft.model c.in_ok-progress.ensures.drawn ∙ c.faces.invariant.made;
      steps = others_lead c.faces.draft c.draw_face.new.draft _ (ops_from c.args.plane (drawing_of c.in_ok-progress.progress c.draw_face.new.draft.model []) (paired (others rest) (map codes c.split_at.result.1.now))) c.in_ok-progress.ensures.steps
          ∙ ap (after_steps c.faces.draft) (ops_on c.args.plane c.faces.progress c.faces.draft.model rest later c.faces.invariant.can (slice_index_or rest 0 no_pairs) (others rest) opened c.split_at.result.0.now c.split_at.result.1.now
          c.split_at.ensures.front c.split_at.ensures.back c.in_ok-progress.progress c.draw_face.new.draft.model c.in_ok-progress.ensures.drawn) ∙ c.faces.invariant.steps;
      further = further_on _ _ _ c.faces.invariant.further c.in_ok-progress.ensures.further;
    }

pub returns-clause-steps : goal.returns-clause-steps
returns-clause-steps c = none_left c.faces.rest.now (λ fs. ops_from c.args.plane (drawing_of c.faces.progress c.faces.draft.model []) (paired fs (map codes c.faces.later.now))) c.args.draft.now c.faces.draft _ c.in_default.len_below refl c.faces.invariant.steps
