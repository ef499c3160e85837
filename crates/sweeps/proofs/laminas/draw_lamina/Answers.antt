use Rattle.sweeps.proofs.Prelude.{rules, arith, ◌≡◌, ◌<◌, ◌+◌, length, ap, refl, ◌∙◌, on_ok_weaker, Mef, half-plus, half-minus, DraftJournal, operators_make_lamina, further_on}
use Rattle.std.proofs.lemmas.Bool.Decides.{nat_tests}
use Rattle.sweeps.proofs.Drawing.{begun, first_is, first_goes, first_along, next_goes, next_along, last_goes, last_steps}
use Rattle.undo_journal.proofs.Corners.{same_mev}
use Rattle.sweeps.proofs.laminas.draw_lamina.Goals as goal

pub point_at-first-requires : goal.point_at-first-requires
point_at-first-requires c =
    let g = begun c.args.draft.now.model c.args.taken.now c.args.solid c.args.points.now c.stays_consistent.ensures.model c.requires.taken c.requires.accepted in
    omega (arith, g.many)

pub step_accepted-requires : goal.step_accepted-requires
step_accepted-requires c =
    let g = begun c.args.draft.now.model c.args.taken.now c.args.solid c.args.points.now c.stays_consistent.ensures.model c.requires.taken c.requires.accepted in
    first_goes c.args.draft.now _ c.args.solid c.args.points.now g _ (first_is c.args.draft.now _ c.args.solid c.args.points.now g _ _ refl c.point_at-first.ensures)

pub further-init : goal.further-init
further-init c =
    let g = begun c.args.draft.now.model c.args.taken.now c.args.solid c.args.points.now c.stays_consistent.ensures.model c.requires.taken c.requires.accepted in
    (first_along c.args.draft.now _ c.args.solid c.args.points.now g _ _ c.in_ok-step_accepted.ensures.ok (first_is c.args.draft.now _ c.args.solid c.args.points.now g _ _ refl c.point_at-first.ensures), c.in_ok-step_accepted.ensures.further)

pub step_accepted-requires-in-further : goal.step_accepted-requires-in-further
step_accepted-requires-in-further c =
    let g = begun c.args.draft.now.model c.args.taken.now c.args.solid c.args.points.now c.stays_consistent.ensures.model c.requires.taken c.requires.accepted in
    let l : c.further.i < length c.args.points.now = search rules in
    next_goes c.args.draft.now _ c.args.solid c.args.points.now g c.further.i _ c.further.end c.further.invariant.0 _ _ _ _ (same_mev _ _ _ c.packed.ensures c.packed-in-further.ensures) (c.plus.ensures ∙ half-plus _) refl c.point_at-next.ensures l

pub further-preserved : goal.further-preserved
further-preserved c =
    let g = begun c.args.draft.now.model c.args.taken.now c.args.solid c.args.points.now c.stays_consistent.ensures.model c.requires.taken c.requires.accepted in
    let l : c.further.i < length c.args.points.now = search rules in (
      next_along c.args.draft.now _ c.args.solid c.args.points.now g c.further.i _ c.further.end c.further.invariant.0 _ _ _ _ (same_mev _ _ _ c.packed.ensures c.packed-in-further.ensures) (c.plus.ensures ∙ half-plus _) refl c.point_at-next.ensures l _ _ c.in_ok-step_accepted-2.ensures.ok (c.minus.ensures ∙ half-minus _),
      further_on _ _ _ c.further.invariant.1 c.in_ok-step_accepted-2.ensures.further,
    )

pub step_accepted-requires-2 : goal.step_accepted-requires-2
step_accepted-requires-2 c =
    let g = begun c.args.draft.now.model c.args.taken.now c.args.solid c.args.points.now c.stays_consistent.ensures.model c.requires.taken c.requires.accepted in
    let e : c.further.i ≡ length c.args.points.now = grind (arith, nat_tests, c.further.invariant.0.within, c.further-test.false) in
    last_goes c.args.draft.now _ c.args.solid c.args.points.now g c.further.i _ c.further.end c.further.invariant.0 e _
    (λ t. Mef ((c.minus-turn.ensures ∙ half-minus _) t) ((c.plus-start.ensures ∙ half-plus _) t) ((c.plus-2.ensures ∙ half-plus _) t) (c.args.taken.now.faces + 2) (c.args.taken.now.loops + 2))

pub returns-clause-steps : goal.returns-clause-steps
returns-clause-steps c =
    let g = begun c.args.draft.now.model c.args.taken.now c.args.solid c.args.points.now c.stays_consistent.ensures.model c.requires.taken c.requires.accepted in
    let e : c.further.i ≡ length c.args.points.now = grind (arith, nat_tests, c.further.invariant.0.within, c.further-test.false) in
    on_ok_weaker c.step_accepted-2.result (λ step. last_steps c.args.draft.now _ c.args.solid c.args.points.now g c.further.i _ c.further.end c.further.invariant.0 e _
    (λ t. Mef ((c.minus-turn.ensures ∙ half-minus _) t) ((c.plus-start.ensures ∙ half-plus _) t) ((c.plus-2.ensures ∙ half-plus _) t) (c.args.taken.now.faces + 2) (c.args.taken.now.loops + 2))
    _ step c.requires.taken) c.step_accepted-2.ensures.ok

pub returns-clause-ok : goal.returns-clause-ok
returns-clause-ok c =
    on_ok_weaker c.step_accepted-2.result (λ steps. ap (λ (d : DraftJournal). d.model) steps ∙ operators_make_lamina c.args.draft.now.model c.args.solid c.args.points.now c.stays_consistent.ensures.model c.requires.accepted)
    (returns-clause-steps c)
