use Rattle.plane_split.proofs.Prelude.{Ok, Err, sym, ap, ◌∙◌, verdict, split_refusal, split_model, DraftJournal, after_steps, split_ops, verdict_passed, verdict_failed}
use Rattle.plane_split.proofs.Conditions.{same_refusal}
use Rattle.plane_split.proofs.steps.try_split.Goals as goal

pub returns-in-Ok-Ok-clause-ok : goal.returns-in-Ok-Ok-clause-ok
returns-in-Ok-Ok-clause-ok c = (
  verdict_passed (split_refusal c.args.draft.now.model c.args.s c.args.plane.now c.args.upper) tt
      (sym c.in-Ok-Ok.field-0-is ∙ c.in-Ok-Ok.ensures.carried ∙ ap (λ (d : DraftJournal). verdict (split_refusal d.model c.args.s c.args.plane.now c.args.upper)) c.reserve.ensures),
  c.in-Ok-Ok.ensures.model (ap Ok c.in-Ok-Ok.field-0-is) ∙ ap (λ (d : DraftJournal). split_model d.model c.args.s c.args.plane.now c.args.upper) c.reserve.ensures,
)

pub returns-in-Ok-Err-clause-refused : goal.returns-in-Ok-Err-clause-refused
returns-in-Ok-Err-clause-refused c = λ refusal is.
    verdict_failed (split_refusal c.args.draft.now.model c.args.s c.args.plane.now c.args.upper) refusal
    (ap Err (sym (same_refusal c.in-Ok-Err.refusal refusal is)) ∙ sym c.in-Ok-Err.field-0-is ∙ c.in-Ok-Err.ensures.carried ∙ ap (λ (d : DraftJournal). verdict (split_refusal d.model c.args.s c.args.plane.now c.args.upper)) c.reserve.ensures)

pub returns-in-Ok-Ok-clause-steps : goal.returns-in-Ok-Ok-clause-steps
returns-in-Ok-Ok-clause-steps c =
    c.in-Ok-Ok.ensures.steps (ap Ok c.in-Ok-Ok.field-0-is) ∙ ap (λ (d : DraftJournal). after_steps d (split_ops d.model c.args.s c.args.plane.now c.args.upper)) c.reserve.ensures
