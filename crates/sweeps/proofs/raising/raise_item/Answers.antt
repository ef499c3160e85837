use Rattle.sweeps.proofs.Prelude.{◌≡◌, ◌∙◌, ap, sym, subst, true, OnOk, moved, code, half, plus, has_half, point_of, Has, first_false, start, after_step, taken_of}
use Rattle.sweeps.proofs.RaisedItems.{same_raise}
use Rattle.undo_journal.proofs.Corners.{same_mev}
use Rattle.sweeps.proofs.raising.raise_item.Goals as goal

pub point-requires : goal.point-requires
point-requires c =
    let there = subst (λ X. has_half X (code c.args.item) ≡ true) (sym c.arena-arena.ensures.model) c.requires.there in
    subst (Has c.arena-arena.result.now.model.vertices) (sym c.tail.ensures) (c.arena-arena.ensures.ready.sound.tails_there (code c.args.item) there)

pub step_accepted-requires : goal.step_accepted-requires
step_accepted-requires c = ap (first_false c.args.draft.now.model) (same_mev _ _ _ c.corner.ensures c.corner-2.ensures ∙ same_raise c.args.draft.now.model (taken_of c.args.taken.now) c.args.shift c.args.item c.args.at c.plus-edge.result c.sum-top.result
    (c.plus-edge.ensures ∙ ap (λ e. half (plus e)) c.riser.ensures) (c.sum-top.ensures ∙ ap (λ p. moved p c.args.shift) (c.point.ensures.point ∙ ap (point_of c.arena-arena.result.now.model) c.tail.ensures ∙ ap (λ X. start X (code c.args.item)) c.arena-arena.ensures.model))) ∙ c.requires.accepted

pub returns-clause-ok : goal.returns-clause-ok
returns-clause-ok c = subst (λ op. OnOk c.step_accepted.result (c.step_accepted.new.self ≡ after_step c.args.draft.now op)) (same_mev _ _ _ c.corner.ensures c.corner-2.ensures ∙ same_raise c.args.draft.now.model (taken_of c.args.taken.now) c.args.shift c.args.item c.args.at c.plus-edge.result c.sum-top.result
    (c.plus-edge.ensures ∙ ap (λ e. half (plus e)) c.riser.ensures) (c.sum-top.ensures ∙ ap (λ p. moved p c.args.shift) (c.point.ensures.point ∙ ap (point_of c.arena-arena.result.now.model) c.tail.ensures ∙ ap (λ X. start X (code c.args.item)) c.arena-arena.ensures.model))) c.step_accepted.ensures.ok
