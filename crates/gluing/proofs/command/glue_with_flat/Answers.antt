use Rattle.gluing.proofs.Prelude.{rules, ap, sym, ◌∙◌, glue_model, glue_ops, DraftJournal, further_accepted, further_recorded, steps_recorded, early_refusal}
use Rattle.shapes.specs.glue.Glue as shapes
use Rattle.gluing.proofs.glue_checks_laws.Conditions.{none_early}
use Rattle.gluing.proofs.command.glue_with_flat.Goals as goal

pub returns-in-Err-clause-refused : goal.returns-in-Err-clause-refused
returns-in-Err-clause-refused c = λ refusal is. sym (λ i. shapes.glue_refusal (c.arena.ensures.model i) c.args.f c.args.other) ∙ c.in-Err.ensures.refused refusal is

pub try_join-requires : goal.try_join-requires
try_join-requires c = ap (λ (d : DraftJournal). shapes.glue_refusal d.model c.args.f c.args.other) c.in-Ok.ensures.ok ∙ sym (ap (λ M. shapes.glue_refusal M c.args.f c.args.other) c.arena.ensures.model) ∙ c.in_default.ensures.ok

pub returns-in-Ok-try_join-clause-ok : goal.returns-in-Ok-try_join-clause-ok
returns-in-Ok-try_join-clause-ok c = (
  sym (ap (λ M. shapes.glue_refusal M c.args.f c.args.other) c.arena.ensures.model) ∙ c.in_default.ensures.ok,
  further_accepted _ _ _ _ (λ M. glue_model M c.args.f c.args.other) c.in-Ok.ensures.ok c.in-Ok-try_join.ensures.further c.in-Ok-try_join.ensures.model c.commit.ensures,
)

pub returns-in-Err-try_join-clause-err : goal.returns-in-Err-try_join-clause-err
returns-in-Err-try_join-clause-err c = search rules

pub returns-in-Err-open-clause-memory : goal.returns-in-Err-open-clause-memory
returns-in-Err-open-clause-memory c = λ error is.
    sym (ap (λ M. early_refusal M c.args.f c.args.other) c.arena.ensures.model) ∙ none_early c.arena.result.now.model c.args.f c.args.other c.in_default.ensures.ok

pub returns-in-Err-try_join-clause-memory : goal.returns-in-Err-try_join-clause-memory
returns-in-Err-try_join-clause-memory c = λ error is.
    sym (ap (λ M. early_refusal M c.args.f c.args.other) c.arena.ensures.model) ∙ none_early c.arena.result.now.model c.args.f c.args.other c.in_default.ensures.ok

pub returns-in-Ok-try_join-clause-recorded : goal.returns-in-Ok-try_join-clause-recorded
returns-in-Ok-try_join-clause-recorded c = further_recorded _ _ _ _ c.in-Ok.ensures.ok c.in-Ok-try_join.ensures.further c.commit.ensures

pub returns-in-Ok-try_join-clause-record : goal.returns-in-Ok-try_join-clause-record
returns-in-Ok-try_join-clause-record c = steps_recorded _ _ _ _ (λ M. glue_ops M c.args.f c.args.other) c.in-Ok.ensures.ok c.in-Ok-try_join.ensures.steps c.commit.ensures
