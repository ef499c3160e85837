use Rattle.split_drawing.proofs.Prelude.{◌≡◌, ◌∙◌, [], ◌++◌, map, IfOk, ap, sym, subst, Model, with_crossings, Drawing, crossing_ops, after_steps, steps_after, drawing_of, codes, AreSides, PairsThere, pairs_started}
use Rattle.std.proofs.lemmas.Result.{on_ok_weaker}
use Rattle.split_drawing.proofs.edge_cutting_laws.Remaining.{cut_plane}
use Rattle.split_drawing.proofs.solid_drawing_laws.WholeSolid.{pairs_there, still_noted, enough, can_draw, made, ops_are}
use Rattle.split_drawing.proofs.solid_drawing.solid.draw_solid.Goals as goal

pub pairs_started-requires-clause-there : goal.pairs_started-requires-clause-there
pairs_started-requires-clause-there c =
    let M = c.args.draft.now.model in let s = c.args.s in let p = c.args.plane.now in
    let cut = c.arena.ensures.model ∙ c.in_ok-taken.ensures.model in
    let pairs = ap (map codes) c.as_slice-2.ensures.value ∙ c.requires.cuts.pairs in
    subst (λ (X : Model). PairsThere X (map codes c.as_slice-2.result.now)) (sym cut) (subst (PairsThere (with_crossings M s p).model) (sym pairs) (pairs_there M s p c.stays_consistent.ensures.model c.requires.begins))

pub pairs_started-requires-clause-plane : goal.pairs_started-requires-clause-plane
pairs_started-requires-clause-plane c = cut_plane c.args.draft.now.model c.args.s c.args.plane.now c.requires.begins

pub pairs_started-requires-clause-sides : goal.pairs_started-requires-clause-sides
pairs_started-requires-clause-sides c =
    let cut = c.arena.ensures.model ∙ c.in_ok-taken.ensures.model in
    subst (λ (X : Model). AreSides X c.args.plane.now c.args.sides.now) (sym cut)
    (still_noted c.args.draft.now.model c.args.s c.args.plane.now c.stays_consistent.ensures.model c.requires.begins c.args.sides.now.noted c.requires.sides)

pub draw_faces-requires-clause-sides : goal.draw_faces-requires-clause-sides
draw_faces-requires-clause-sides c = subst (λ (X : Model). AreSides X c.args.plane.now c.pairs_started.new.sides) c.arena.ensures.model c.pairs_started.ensures.sides

pub draw_faces-requires-clause-plane : goal.draw_faces-requires-clause-plane
draw_faces-requires-clause-plane c = cut_plane c.args.draft.now.model c.args.s c.args.plane.now c.requires.begins

pub draw_faces-requires-clause-can : goal.draw_faces-requires-clause-can
draw_faces-requires-clause-can c =
    let M = c.args.draft.now.model in let s = c.args.s in let p = c.args.plane.now in
    can_draw M s p c.stays_consistent.ensures.model c.requires.begins c.in_ok-taken.taken c.cut_edges.new.draft.model c.in_ok-taken.ensures.model
    c.in_ok-taken.ensures.counted c.args.cuts.now c.requires.cuts c.as_slice-faces.result.now c.as_slice-faces.ensures.value c.as_slice-3.result.now
    (ap (map codes) c.as_slice-3.ensures.value ∙ c.in_ok-started.ensures.are ∙ (λ i. pairs_started (c.arena.ensures.model i) p (map codes (c.as_slice-2.ensures.value i))))

pub draw_faces-requires-clause-enough : goal.draw_faces-requires-clause-enough
draw_faces-requires-clause-enough c =
    let M = c.args.draft.now.model in let s = c.args.s in let p = c.args.plane.now in
    enough M s p c.stays_consistent.ensures.model c.requires.begins c.in_ok-taken.taken c.cut_edges.new.draft.model c.in_ok-taken.ensures.model
    c.in_ok-taken.ensures.counted c.args.cuts.now c.requires.cuts c.as_slice-faces.result.now c.as_slice-faces.ensures.value c.as_slice-3.result.now
    (ap (map codes) c.as_slice-3.ensures.value ∙ c.in_ok-started.ensures.are ∙ (λ i. pairs_started (c.arena.ensures.model i) p (map codes (c.as_slice-2.ensures.value i))))

pub returns-clause-drawn : goal.returns-clause-drawn
returns-clause-drawn c =
    let M = c.args.draft.now.model in let s = c.args.s in let p = c.args.plane.now in
    let same = made M s p c.stays_consistent.ensures.model c.requires.begins c.in_ok-taken.taken c.cut_edges.new.draft.model c.in_ok-taken.ensures.model
    c.in_ok-taken.ensures.counted c.args.cuts.now c.requires.cuts c.as_slice-faces.result.now c.as_slice-faces.ensures.value c.as_slice-3.result.now
    (ap (map codes) c.as_slice-3.ensures.value ∙ c.in_ok-started.ensures.are ∙ (λ i. pairs_started (c.arena.ensures.model i) p (map codes (c.as_slice-2.ensures.value i)))) in
    subst (λ (D : Drawing). IfOk c.draw_faces.result (λ drawn. drawing_of drawn c.draw_faces.new.draft.model [] ≡ D)) same c.draw_faces.ensures.drawn

pub returns-clause-steps : goal.returns-clause-steps
returns-clause-steps c =
    let M = c.args.draft.now.model in let s = c.args.s in let p = c.args.plane.now in
    let all = ops_are M s p c.stays_consistent.ensures.model c.requires.begins c.in_ok-taken.taken c.cut_edges.new.draft.model c.in_ok-taken.ensures.model
    c.in_ok-taken.ensures.counted c.args.cuts.now c.requires.cuts c.as_slice-faces.result.now c.as_slice-faces.ensures.value c.as_slice-3.result.now
    (ap (map codes) c.as_slice-3.ensures.value ∙ c.in_ok-started.ensures.are ∙ (λ i. pairs_started (c.arena.ensures.model i) p (map codes (c.as_slice-2.ensures.value i)))) in
    on_ok_weaker c.draw_faces.result (λ steps. steps_after _ _ _ _ _ c.in_ok-taken.ensures.steps steps ∙ ap (λ ops. after_steps c.args.draft.now (crossing_ops M s p ++ ops)) all) c.draw_faces.ensures.steps
