use Rattle.euler_conditions.proofs.Prelude.{sym, ap, ◌∙◌, eqb-true, At, same_code}
use Rattle.euler_conditions.proofs.corners.are_one.Goals as goal

pub returns-in-At-to : goal.returns-in-At-to
returns-in-At-to c = λ e. c.in-At.is ∙ ap At (same_code c.in-At.g c.in-At-to.h (eqb-true _ _ (sym c.same.ensures ∙ e))) ∙ sym c.in-At-to.is
