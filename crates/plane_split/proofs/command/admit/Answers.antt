use Rattle.plane_split.proofs.Prelude.{◌≡◌, Some, Result, IfErr, ap, subst, ◌∙◌, first_refusal, Refusal, first_conditions}
use Rattle.split_drawing.specs.declared.Cuts.{Cuts}
use Rattle.plane_split.proofs.Conditions.{same_refusal, refused_first}
use Rattle.plane_split.proofs.command.admit.Goals as goal

pub returns-in-Ok-Err-clause-refused : goal.returns-in-Ok-Err-clause-refused
returns-in-Ok-Err-clause-refused c = λ refusal is.
    let M = c.args.arena.now.model in let s = c.args.s in let p = c.args.plane.now in let t = c.args.upper in
    let told = subst (λ (r : Result Cuts Refusal). IfErr r (λ q. first_refusal (first_conditions M s p t) ≡ Some q)) c.in-Ok-Err.field-0-is c.in-Ok-Err.ensures.refused in
    refused_first M s p t refusal (told ∙ ap Some (same_refusal c.in-Ok-Err.refusal refusal is))
