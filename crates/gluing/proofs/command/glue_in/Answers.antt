use Rattle.gluing.proofs.Prelude.{sym, ap, ◌∙◌, early_refusal}
use Rattle.gluing.proofs.glue_checks_laws.Conditions.{none_early}
use Rattle.gluing.proofs.command.glue_in.Goals as goal

pub returns-in-Err-try_join-clause-memory : goal.returns-in-Err-try_join-clause-memory
returns-in-Err-try_join-clause-memory c = λ error is.
    sym (ap (λ M. early_refusal M c.args.f c.args.other) c.arena.ensures.model) ∙ none_early c.arena.result.now.model c.args.f c.args.other c.in_default.ensures.ok
