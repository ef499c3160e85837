use Rattle.gluing.proofs.Prelude.{refl, ap, ◌∙◌, [], ◌∷◌, on_ok_weaker, code, half, mate, minus, code-half, Mef, Kev, Kef, DraftJournal, after_steps, next_goes, next_taken, first_step, step_after}
use Rattle.gluing.proofs.Remaining.{closing_is, closing_left}
use Rattle.gluing.proofs.joining.close_item.Goals as goal

pub step_accepted-requires : goal.step_accepted-requires
step_accepted-requires c = let spare = c.args.spare in
    next_goes (closing_left c.args.draft.now.model c.args.partner c.args.next spare.edge spare.face spare.ring c.plus.result (half (minus spare.edge)) (half (mate (code c.args.partner))) c.plus.ensures refl (code-half (mate (code c.args.partner))) c.requires)

pub step_accepted-requires-2 : goal.step_accepted-requires-2
step_accepted-requires-2 c =
    let spare = c.args.spare in
    let ops = closing_left c.args.draft.now.model c.args.partner c.args.next spare.edge spare.face spare.ring c.plus.result c.minus.result (half (mate (code c.args.partner))) c.plus.ensures c.minus.ensures (code-half (mate (code c.args.partner))) c.requires in
    next_goes (next_taken ops (ap (λ (d : DraftJournal). d.model) c.in_ok-step_accepted.ensures.ok))

pub step_accepted-requires-3 : goal.step_accepted-requires-3
step_accepted-requires-3 c =
    let spare = c.args.spare in
    let ops = closing_left c.args.draft.now.model c.args.partner c.args.next spare.edge spare.face spare.ring c.plus.result c.minus.result c.mate.result c.plus.ensures c.minus.ensures c.mate.ensures c.requires in
    let one = next_taken ops (ap (λ (d : DraftJournal). d.model) c.in_ok-step_accepted.ensures.ok) in
    next_goes (next_taken one (ap (λ (d : DraftJournal). d.model) c.in_ok-step_accepted-2.ensures.ok))

pub returns-clause-steps : goal.returns-clause-steps
returns-clause-steps c =
    let spare = c.args.spare in
    let are = closing_is c.args.partner c.args.next spare.edge spare.face spare.ring c.plus.result c.minus.result c.mate.result c.plus.ensures c.minus.ensures c.mate.ensures in
    let old = c.args.draft.now in let first = c.step_accepted.new.self in let second = c.step_accepted-2.new.self in
    let split = Mef c.args.partner c.args.next c.plus.result spare.face spare.ring in
    let joined = Kev c.minus.result in
    let one = first_step old first split c.in_ok-step_accepted.ensures.ok in
    let two = step_after old first second (split ∷ []) joined one c.in_ok-step_accepted-2.ensures.ok in
    on_ok_weaker c.step_accepted-3.result (λ step. step_after old second c.step_accepted-3.new.self (split ∷ joined ∷ []) (Kef c.mate.result) two step ∙ ap (after_steps old) are) c.step_accepted-3.ensures.ok
