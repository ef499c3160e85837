use Rattle.gluing.proofs.Prelude.{refl, ap, ◌∙◌, [], ◌∷◌, on_ok_weaker, At, half, plus, solid_of, Merge, Kfmrh, Mekr, Kev, DraftJournal, first_false, after_step, after_steps, next_goes, next_taken, first_step, step_after}
use Rattle.gluing.proofs.Remaining.{opening_is, opening_left}
use Rattle.undo_journal.proofs.Corners.{same_mekr}
use Rattle.gluing.proofs.joining.open_seam.Goals as goal

pub step_accepted-requires-3 : goal.step_accepted-requires-3
step_accepted-requires-3 c =
    let solid = c.solid_of-solid.ensures ∙ ap (λ X. solid_of X c.args.f) c.arena.ensures.model in
    let other = c.solid_of-other_solid.ensures ∙ ap (λ X. solid_of X c.args.other) c.arena-2.ensures.model in
    let ops = opening_left c.args.draft.now.model c.args.f c.args.other c.args.edge c.args.first c.args.partner c.solid_of-solid.result c.solid_of-other_solid.result c.plus.result (half (plus c.args.edge)) solid other c.plus.ensures refl c.requires.accepted in
    let one = next_taken ops (ap (λ (d : DraftJournal). d.model) c.in_ok-step_accepted.ensures.ok) in
    ap (first_false c.step_accepted-2.new.self.model) (same_mekr _ c.corner.ensures c.corner-2.ensures)
    ∙ next_goes (next_taken one (ap (λ (d : DraftJournal). d.model) c.in_ok-step_accepted-2.ensures.ok))

pub step_accepted-requires-4 : goal.step_accepted-requires-4
step_accepted-requires-4 c =
    let solid = c.solid_of-solid.ensures ∙ ap (λ X. solid_of X c.args.f) c.arena.ensures.model in
    let other = c.solid_of-other_solid.ensures ∙ ap (λ X. solid_of X c.args.other) c.arena-2.ensures.model in
    let ops = opening_left c.args.draft.now.model c.args.f c.args.other c.args.edge c.args.first c.args.partner c.solid_of-solid.result c.solid_of-other_solid.result c.plus.result c.plus-2.result solid other c.plus.ensures c.plus-2.ensures c.requires.accepted in
    let one = next_taken ops (ap (λ (d : DraftJournal). d.model) c.in_ok-step_accepted.ensures.ok) in
    let two = next_taken one (ap (λ (d : DraftJournal). d.model) c.in_ok-step_accepted-2.ensures.ok) in
    let bridged = c.in_ok-step_accepted-3.ensures.ok ∙ ap (after_step c.step_accepted-2.new.self) (same_mekr _ c.corner.ensures c.corner-2.ensures) in
    next_goes (next_taken two (ap (λ (d : DraftJournal). d.model) bridged))

pub returns-clause-steps : goal.returns-clause-steps
returns-clause-steps c =
    let solid = c.solid_of-solid.ensures ∙ ap (λ X. solid_of X c.args.f) c.arena.ensures.model in
    let other = c.solid_of-other_solid.ensures ∙ ap (λ X. solid_of X c.args.other) c.arena-2.ensures.model in
    let are = opening_is c.args.draft.now.model c.args.f c.args.other c.args.edge c.args.first c.args.partner c.solid_of-solid.result c.solid_of-other_solid.result c.plus.result c.plus-2.result solid other c.plus.ensures c.plus-2.ensures in
    let old = c.args.draft.now in let first = c.step_accepted.new.self in let second = c.step_accepted-2.new.self in let third = c.step_accepted-3.new.self in
    let merged = Merge c.solid_of-solid.result c.solid_of-other_solid.result in
    let ring = Kfmrh c.args.f c.args.other in
    let bridge = Mekr (At c.args.first) (At c.args.partner) c.plus.result in
    let one = first_step old first merged c.in_ok-step_accepted.ensures.ok in
    let two = step_after old first second (merged ∷ []) ring one c.in_ok-step_accepted-2.ensures.ok in
    let three = step_after old second third (merged ∷ ring ∷ []) bridge two (c.in_ok-step_accepted-3.ensures.ok ∙ ap (after_step second) (same_mekr _ c.corner.ensures c.corner-2.ensures)) in
    on_ok_weaker c.step_accepted-4.result (λ step. step_after old third c.step_accepted-4.new.self (merged ∷ ring ∷ bridge ∷ []) (Kev c.plus-2.result) three step ∙ ap (after_steps old) are) c.step_accepted-4.ensures.ok
