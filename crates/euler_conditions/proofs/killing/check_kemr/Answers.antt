use Rattle.euler_conditions.proofs.Prelude.{◌≡◌, not, [], ◌∷◌, sym, ap, ◌∙◌, ne_eqb, code, mate, loop_of, conditions, first_false, numbers_in_range, DifferentLoops}
use Rattle.euler_conditions.proofs.Tests.{refuses, all_pass, passes, fails}
use Rattle.euler_conditions.proofs.killing.check_kemr.Goals as goal

pub returns-then-loop_of-cut : goal.returns-then-loop_of-cut
unfolding conditions first_false
returns-then-loop_of-cut c =
    let M = c.args.arena.now.model in
    let cut_is : c.loop_of-cut.result ≡ loop_of M (mate (code c.args.gone)) = c.loop_of-cut.ensures.is ∙ ap (loop_of M) c.mate.ensures.mate in
    c.refused-then-loop_of-cut.ensures ∙ ap (refuses DifferentLoops) cut_is
    ∙ sym (all_pass (numbers_in_range (c.args.gone.edge ∷ c.args.ring ∷ [])) _ (sym c.in_range.ensures ∙ c.in_ok-in_range.was)
    ∙ passes _ _ _ (sym c.has.ensures.used ∙ c.if-not-has.false)
    ∙ passes _ _ _ (ap not (sym c.has-2.ensures.used ∙ c.if-has.false))
    ∙ fails _ _ _ (ne_eqb _ _ (λ e. c.if-loop_of-cut.true (c.loop_of.ensures.is ∙ e ∙ sym cut_is))))
