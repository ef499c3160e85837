use Rattle.euler_conditions.proofs.Prelude.{not, [], ◌∷◌, sym, ap, ◌∙◌, eq-eqb, conditions, first_false, numbers_in_range, SameTail}
use Rattle.euler_conditions.proofs.Tests.{refuses, all_pass, passes, fails, same_numbers, other_numbers}
use Rattle.euler_conditions.proofs.making.check_mef.Goals as goal

pub returns-then-tail : goal.returns-then-tail
unfolding conditions first_false
returns-then-tail c =
    c.refused-then-tail.ensures ∙ ap (refuses SameTail) c.tail-tail.ensures
    ∙ sym (all_pass (numbers_in_range (c.args.from.edge ∷ c.args.to.edge ∷ c.args.made.edge ∷ c.args.face ∷ c.args.outer ∷ [])) _ (sym c.in_range.ensures ∙ c.in_ok-in_range.was)
    ∙ passes _ _ _ (sym c.has.ensures.used ∙ c.if-not-has.false)
    ∙ passes _ _ _ (sym c.has-2.ensures.used ∙ c.if-not-has-2.false)
    ∙ passes _ _ _ (ap not (sym c.has-3.ensures.used ∙ c.if-has.false))
    ∙ passes _ _ _ (ap not (sym c.has-4.ensures.used ∙ c.if-has-2.false))
    ∙ passes _ _ _ (ap not (sym c.has-5.ensures.used ∙ c.if-has-3.false))
    ∙ passes _ _ _ (eq-eqb _ _ (sym c.loop_of.ensures.is ∙ c.if-loop_of-cut.false ∙ c.loop_of-cut.ensures.is))
    ∙ fails _ _ _ (same_numbers _ _ (sym c.tail-tail.ensures ∙ c.if-tail.true ∙ c.tail.ensures)))

pub returns : goal.returns
unfolding conditions first_false
returns c =
    sym (all_pass (numbers_in_range (c.args.from.edge ∷ c.args.to.edge ∷ c.args.made.edge ∷ c.args.face ∷ c.args.outer ∷ [])) _ (sym c.in_range.ensures ∙ c.in_ok-in_range.was)
    ∙ passes _ _ _ (sym c.has.ensures.used ∙ c.if-not-has.false)
    ∙ passes _ _ _ (sym c.has-2.ensures.used ∙ c.if-not-has-2.false)
    ∙ passes _ _ _ (ap not (sym c.has-3.ensures.used ∙ c.if-has.false))
    ∙ passes _ _ _ (ap not (sym c.has-4.ensures.used ∙ c.if-has-2.false))
    ∙ passes _ _ _ (ap not (sym c.has-5.ensures.used ∙ c.if-has-3.false))
    ∙ passes _ _ _ (eq-eqb _ _ (sym c.loop_of.ensures.is ∙ c.if-loop_of-cut.false ∙ c.loop_of-cut.ensures.is))
    ∙ passes _ _ _ (other_numbers _ _ (λ e. c.if-tail.false (c.tail-tail.ensures ∙ e ∙ sym c.tail.ensures))))
