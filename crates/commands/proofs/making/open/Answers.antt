use Rattle.commands.proofs.Prelude.{inr, refl, ap, ◌∙◌, Session}
use Rattle.commands.proofs.making.open.Goals as goal

pub returns-in-Err : goal.returns-in-Err
returns-in-Err c = inr (refl, ap Session (c.of.ensures ∙ c.in-Err.ensures.err ∙ c.forget.ensures))
