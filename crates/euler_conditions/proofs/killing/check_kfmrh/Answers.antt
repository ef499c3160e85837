use Rattle.euler_conditions.proofs.Prelude.{[], ◌∷◌, sym, ◌∙◌, conditions, first_false, numbers_in_range}
use Rattle.euler_conditions.proofs.Tests.{all_pass, passes, fails}
use Rattle.euler_conditions.proofs.killing.check_kfmrh.Goals as goal

pub returns-then-not-has : goal.returns-then-not-has
unfolding conditions first_false
returns-then-not-has c =
    c.refused.ensures
    ∙ sym (all_pass (numbers_in_range (c.args.kept ∷ c.args.killed ∷ [])) _ (sym c.in_range.ensures ∙ c.in_ok-in_range.was)
    ∙ fails _ _ _ (sym c.has.ensures.used ∙ c.if-not-has.true))

pub returns-then-not-has-2 : goal.returns-then-not-has-2
unfolding conditions first_false
returns-then-not-has-2 c =
    c.refused-then-not-has-2.ensures
    ∙ sym (all_pass (numbers_in_range (c.args.kept ∷ c.args.killed ∷ [])) _ (sym c.in_range.ensures ∙ c.in_ok-in_range.was)
    ∙ passes _ _ _ (sym c.has.ensures.used ∙ c.if-not-has.false)
    ∙ fails _ _ _ (sym c.has-2.ensures.used ∙ c.if-not-has-2.true))
