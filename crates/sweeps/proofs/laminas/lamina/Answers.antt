use Rattle.sweeps.proofs.Prelude.{rules, ap, sym, ◌∙◌, taken_in, lamina_refusal, lamina_model, lamina_operators, DraftJournal, after_steps, verdict_passed, further_accepted, further_recorded, further_session, steps_recorded}
use Rattle.sweeps.proofs.laminas.lamina.Goals as goal

pub draw_lamina-requires-clause-accepted : goal.draw_lamina-requires-clause-accepted
draw_lamina-requires-clause-accepted c =
    ap (λ ps. lamina_refusal c.in-Ok.draft.model c.args.solid ps) c.as_slice.ensures.value ∙ ap (λ (d : DraftJournal). lamina_refusal d.model c.args.solid c.args.points.now.items) c.in-Ok.ensures.ok
    ∙ sym (ap (λ M. lamina_refusal M c.args.solid c.args.points.now.items) c.arena-arena.ensures.model) ∙ verdict_passed _ _ (sym c.in_default.is ∙ c.check_lamina.ensures)

pub returns-in-Ok-draw_lamina-clause-ok : goal.returns-in-Ok-draw_lamina-clause-ok
returns-in-Ok-draw_lamina-clause-ok c =
    let made = c.in-Ok-draw_lamina.ensures.ok ∙ ap (λ ps. lamina_model c.in-Ok.draft.model c.args.solid ps) c.as_slice.ensures.value in (
      sym (ap (λ M. lamina_refusal M c.args.solid c.args.points.now.items) c.arena-arena.ensures.model) ∙ verdict_passed _ _ (sym c.in_default.is ∙ c.check_lamina.ensures),
      further_accepted _ _ _ _ (λ M. lamina_model M c.args.solid c.args.points.now.items) c.in-Ok.ensures.ok c.in-Ok-draw_lamina.ensures.further made c.commit.ensures,
    )

pub draw_lamina-requires-clause-taken : goal.draw_lamina-requires-clause-taken
draw_lamina-requires-clause-taken c = c.counters_of-taken.ensures.is ∙ ap taken_in c.arena-arena.ensures.model ∙ sym (ap (λ (d : DraftJournal). taken_in d.model) c.in-Ok.ensures.ok)

pub returns-in-Ok-draw_lamina-clause-recorded : goal.returns-in-Ok-draw_lamina-clause-recorded
returns-in-Ok-draw_lamina-clause-recorded c = further_recorded _ _ _ _ c.in-Ok.ensures.ok c.in-Ok-draw_lamina.ensures.further c.commit.ensures

pub returns-in-Ok-draw_lamina-clause-record : goal.returns-in-Ok-draw_lamina-clause-record
returns-in-Ok-draw_lamina-clause-record c =
    let steps = c.in-Ok-draw_lamina.ensures.steps ∙ ap (λ ps. after_steps c.in-Ok.draft (lamina_operators c.in-Ok.draft.model c.args.solid ps)) c.as_slice.ensures.value in
    steps_recorded _ _ _ _ (λ M. lamina_operators M c.args.solid c.args.points.now.items) c.in-Ok.ensures.ok steps c.commit.ensures

pub returns-in-Err-draw_lamina-clause-err : goal.returns-in-Err-draw_lamina-clause-err
returns-in-Err-draw_lamina-clause-err c = let same = further_session _ _ c.in-Err-draw_lamina.ensures.further ∙ ap (λ (d : DraftJournal). d.session) c.in-Ok.ensures.ok in search rules
