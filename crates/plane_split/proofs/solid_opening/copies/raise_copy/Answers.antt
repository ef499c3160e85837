use Rattle.plane_split.proofs.Prelude.{◌≡◌, ◌∙◌, ap, subst, OnOk, first_false, after_step, taken_of}
use Rattle.plane_split.proofs.solid_opening_laws.Items.{copy_op}
use Rattle.undo_journal.proofs.Corners.{same_mev}
use Rattle.plane_split.proofs.solid_opening.copies.raise_copy.Goals as goal

pub step_accepted-requires : goal.step_accepted-requires
step_accepted-requires c = ap (first_false c.args.draft.now.model) (same_mev _ _ _ c.corner.ensures c.corner-2.ensures ∙ copy_op c.arena.result.now.model c.args.draft.now.model c.arena.ensures.model (taken_of c.args.from.now) c.args.halves.now c.args.at c.requires.inside _
    c.place_before.result _ c.minus-back.result c.mate-before.result c.plus-riser.result c.start-point.result c.place_before.ensures c.minus-back.ensures c.mate-before.ensures c.plus-riser.ensures c.start-point.ensures.point) ∙ c.requires.accepted

pub returns-clause-ok : goal.returns-clause-ok
returns-clause-ok c = subst (λ op. OnOk c.step_accepted.result (c.step_accepted.new.self ≡ after_step c.args.draft.now op))
    (same_mev _ _ _ c.corner.ensures c.corner-2.ensures ∙ copy_op c.arena.result.now.model c.args.draft.now.model c.arena.ensures.model (taken_of c.args.from.now) c.args.halves.now c.args.at c.requires.inside _
    c.place_before.result _ c.minus-back.result c.mate-before.result c.plus-riser.result c.start-point.result c.place_before.ensures c.minus-back.ensures c.mate-before.ensures c.plus-riser.ensures c.start-point.ensures.point) c.step_accepted.ensures.ok
