use Rattle.sweeps.proofs.Prelude.{rules, ap, sym, ◌∙◌, taken_in, prism_refusal, prism_model, sweep_ops, DraftJournal, verdict_passed, further_accepted, further_recorded, further_session, steps_recorded}
use Rattle.sweeps.proofs.sweeping.sweep.Goals as goal

pub returns-in-Ok-raise-clause-ok : goal.returns-in-Ok-raise-clause-ok
returns-in-Ok-raise-clause-ok c = (
  sym (ap (λ M. prism_refusal M c.args.f c.args.shift) c.arena-arena.ensures.model) ∙ verdict_passed _ _ (sym c.in_default.is ∙ c.check_sweep.ensures),
  further_accepted _ _ _ _ (λ M. prism_model M c.args.f c.args.shift) c.in-Ok.ensures.ok c.in-Ok-raise.ensures.further c.in-Ok-raise.ensures.model c.commit.ensures,
)

pub raise-requires-clause-taken : goal.raise-requires-clause-taken
raise-requires-clause-taken c = c.counters_of-taken.ensures.is ∙ ap taken_in c.arena-arena.ensures.model ∙ sym (ap (λ (d : DraftJournal). taken_in d.model) c.in-Ok.ensures.ok)

pub returns-in-Err-raise-clause-err : goal.returns-in-Err-raise-clause-err
returns-in-Err-raise-clause-err c = let same = further_session _ _ c.in-Err-raise.ensures.further ∙ ap (λ (d : DraftJournal). d.session) c.in-Ok.ensures.ok in search rules

pub returns-in-Ok-raise-clause-recorded : goal.returns-in-Ok-raise-clause-recorded
returns-in-Ok-raise-clause-recorded c = further_recorded _ _ _ _ c.in-Ok.ensures.ok c.in-Ok-raise.ensures.further c.commit.ensures

pub returns-in-Ok-raise-clause-record : goal.returns-in-Ok-raise-clause-record
returns-in-Ok-raise-clause-record c = steps_recorded _ _ _ _ (λ M. sweep_ops M c.args.f c.args.shift) c.in-Ok.ensures.ok c.in-Ok-raise.ensures.steps c.commit.ensures
