use Rattle.gluing.proofs.Prelude.{ap, ◌∙◌, glue_model, glue_ops, glue_refusal, DraftJournal, after_steps}
use Rattle.gluing.proofs.joining.try_join.Goals as goal

pub take_steps-requires : goal.take_steps-requires
take_steps-requires c = ap (λ (d : DraftJournal). glue_refusal d.model c.args.f c.args.other) c.reserve.ensures ∙ c.requires

pub returns-in-Ok-clause-model : goal.returns-in-Ok-clause-model
returns-in-Ok-clause-model c = c.in-Ok.ensures.model ∙ ap (λ (d : DraftJournal). glue_model d.model c.args.f c.args.other) c.reserve.ensures

pub returns-in-Ok-clause-steps : goal.returns-in-Ok-clause-steps
returns-in-Ok-clause-steps c = c.in-Ok.ensures.steps ∙ ap (λ (d : DraftJournal). after_steps d (glue_ops d.model c.args.f c.args.other)) c.reserve.ensures
