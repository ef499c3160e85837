use Rattle.euler_conditions.proofs.Prelude.{◌≡◌, ℕ, ◌∙◌, not, refl, sym, ap, [], ◌∷◌, Ok, Err, ne_eqb, err_from_is_err_and, Mev, conditions, first_false, first_refusal, verdict, numbers_in_range, corner_number, corner_known, corner_lone, corner_tail, DifferentTails}
use Rattle.euler_conditions.proofs.Orders.{answer_refuses, middle_refuses}
use Rattle.euler_conditions.proofs.Tests.{refuses, passes, fails, all_pass, answer_holds}
use Rattle.euler_conditions.proofs.making.check_mev.Goals as goal

pub returns-in_err-start : goal.returns-in_err-start
unfolding conditions first_false
returns-in_err-start c =
    let M = c.args.arena.now.model in let p = err_from_is_err_and c.from_residual-in_err-start.result c.from_residual-in_err-start.ensures.1 in
    let held : verdict (first_refusal (numbers_in_range (c.number.result ∷ c.number-2.result ∷ c.args.made.edge ∷ c.args.vertex ∷ []))) ≡ Ok tt = sym c.in_range.ensures ∙ c.in_ok-in_range.was in
    p.1 ∙ ap Err p.2 ∙ sym (middle_refuses (conditions M (Mev c.args.from c.args.to c.args.made c.args.vertex c.args.point))
    (numbers_in_range (corner_number c.args.from ∷ corner_number c.args.to ∷ c.args.made.edge ∷ c.args.vertex ∷ []))
    (corner_known M c.args.from ∷ corner_known M c.args.to ∷ corner_lone M c.args.from ∷ corner_lone M c.args.to ∷ [])
    _ _ refl (rw (c.number.ensures, c.number-2.ensures) at held) (answer_refuses _ _ _ (sym c.vertices.ensures ∙ c.in_err-start.was)))

pub returns-then-start-end : goal.returns-then-start-end
unfolding conditions first_false
returns-then-start-end c =
    let M = c.args.arena.now.model in
    let held : verdict (first_refusal (numbers_in_range (c.number.result ∷ c.number-2.result ∷ c.args.made.edge ∷ c.args.vertex ∷ []))) ≡ Ok tt = sym c.in_range.ensures ∙ c.in_ok-in_range.was in
    let corners = answer_holds _ _ _ (sym c.vertices.ensures ∙ c.in_ok-start.was) in
    let start : corner_tail M c.args.from ≡ c.in_ok-start.start = ap (λ (ends : ℕ × ℕ). ends.0) corners.1 in
    let end : corner_tail M c.args.to ≡ c.in_ok-start.end = ap (λ (ends : ℕ × ℕ). ends.1) corners.1 in
    c.refused-then-start-end.ensures ∙ ap (refuses DifferentTails) (sym end)
    ∙ sym (all_pass (numbers_in_range (corner_number c.args.from ∷ corner_number c.args.to ∷ c.args.made.edge ∷ c.args.vertex ∷ [])) _ (rw (c.number.ensures, c.number-2.ensures) at held)
    ∙ all_pass (corner_known M c.args.from ∷ corner_known M c.args.to ∷ corner_lone M c.args.from ∷ corner_lone M c.args.to ∷ []) _ corners.0
    ∙ passes _ _ _ (ap not (sym c.has.ensures.used ∙ c.if-has.false))
    ∙ passes _ _ _ (ap not (sym c.has-2.ensures.used ∙ c.if-has-2.false))
    ∙ passes _ _ _ (sym c.fits.ensures ∙ c.if-not-fits.false)
    ∙ fails _ _ _ (ne_eqb _ _ (λ e. c.if-start-end.true (sym start ∙ e ∙ end))))
