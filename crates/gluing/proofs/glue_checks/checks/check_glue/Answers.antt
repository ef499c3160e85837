use Rattle.gluing.proofs.Prelude.{◌≡◌, None, ◌∙◌, ap, sym, err_from_is_err_and, solid_of, first_refusal, verdict, faces_of_both, numbers_left, faces_are_flat, face_conditions, outline_conditions}
use Rattle.gluing.proofs.glue_checks_laws.Conditions.{all_passed, faces_failed, solids_failed, outlines_failed, numbers_decide, early_passed, first_held, second_held}
use Rattle.gluing.proofs.glue_checks.checks.check_glue.Goals as goal
use Rattle.gluing.proofs.glue_checks.checks.check_glue.Goals.{Else-is_err-2}

pub returns-then-is_err-clause-checked : goal.returns-then-is_err-clause-checked
returns-then-is_err-clause-checked c = faces_failed c.args.arena.now.model c.args.f c.args.other c.check_faces-faces.result c.check_faces-faces.ensures (sym c.is_err.ensures.value ∙ c.if-is_err.true)

pub returns-then-is_err-2-clause-checked : goal.returns-then-is_err-2-clause-checked
returns-then-is_err-2-clause-checked c =
    let M = c.args.arena.now.model in let f = c.args.f in let g = c.args.other in
    let faces = all_passed (face_conditions M f g) c.check_faces-faces.result c.check_faces-faces.ensures (sym c.is_err.ensures.value ∙ c.if-is_err.false) in
    solids_failed M f g faces c.check_solids-solids.result (c.check_solids-solids.ensures ∙ (λ i. verdict (first_refusal (faces_are_flat M (faces_of_both M (c.solid_of.ensures i) (c.solid_of-2.ensures i)))))) (sym c.is_err-2.ensures.value ∙ c.if-is_err-2.true)

-- the conditions of the faces and of the solids hold
passed : (c : Else-is_err-2) → let M = c.args.arena.now.model in let f = c.args.f in let g = c.args.other in
    (first_refusal (face_conditions M f g) ≡ None) × (first_refusal (faces_are_flat M (faces_of_both M (solid_of M f) (solid_of M g))) ≡ None)
passed c = let M = c.args.arena.now.model in (
  all_passed (face_conditions M c.args.f c.args.other) c.check_faces-faces.result c.check_faces-faces.ensures (sym c.is_err.ensures.value ∙ c.if-is_err.false),
  all_passed (faces_are_flat M (faces_of_both M (solid_of M c.args.f) (solid_of M c.args.other))) c.check_solids-solids.result (c.check_solids-solids.ensures ∙ (λ i. verdict (first_refusal (faces_are_flat M (faces_of_both M (c.solid_of.ensures i) (c.solid_of-2.ensures i)))))) (sym c.is_err-2.ensures.value ∙ c.if-is_err-2.false),
)

pub check_outlines-requires-clause-first_held : goal.check_outlines-requires-clause-first_held
check_outlines-requires-clause-first_held c =
    let p = passed (goal.at.check_outlines-requires-clause-first_held c).Else-is_err-2 in
    first_held _ _ _ p.0 p.1 c.requires.ready.sound

pub check_outlines-requires-clause-second_held : goal.check_outlines-requires-clause-second_held
check_outlines-requires-clause-second_held c =
    let p = passed (goal.at.check_outlines-requires-clause-second_held c).Else-is_err-2 in
    second_held _ _ _ p.0 p.1 c.requires.ready.sound

pub returns-then-is_err-3-clause-checked : goal.returns-then-is_err-3-clause-checked
returns-then-is_err-3-clause-checked c =
    let p = passed (goal.at.returns-then-is_err-3-clause-checked c).Else-is_err-2 in
    outlines_failed _ _ _ p.0 p.1 c.in_ok-outlines.outlines c.in_ok-outlines.ensures (sym c.is_err-3.ensures.value ∙ c.if-is_err-3.true)

pub returns-clause-checked : goal.returns-clause-checked
returns-clause-checked c =
    let p = passed (goal.at.returns-clause-checked c).Else-is_err-2 in
    c.check_left.ensures ∙ ap (λ k. verdict (first_refusal (numbers_left k (record { faces = 0; loops = 0; edges = 1; vertices = 0 })))) c.counters_of.ensures.is ∙ ap verdict (numbers_decide _ _ _ p.0 p.1 (all_passed (outline_conditions c.args.arena.now.model c.args.f c.args.other) c.in_ok-outlines.outlines c.in_ok-outlines.ensures (sym c.is_err-3.ensures.value ∙ c.if-is_err-3.false)))

pub returns-in_err-outlines-clause-memory : goal.returns-in_err-outlines-clause-memory
returns-in_err-outlines-clause-memory c =
    let p = passed (goal.at.returns-in_err-outlines-clause-memory c).Else-is_err-2 in
    let failed = err_from_is_err_and c.from_residual.result c.from_residual.ensures.1 in
    rw failed.1 (early_passed _ _ _ p.0 p.1)
