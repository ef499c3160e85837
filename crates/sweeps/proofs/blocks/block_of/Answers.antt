use Rattle.sweeps.proofs.Prelude.{rules, ap, subst, sym, ◌∙◌, Sound, taken_in, after_steps, block_refusal, block_model, block_operators, DraftJournal, verdict_passed, further_accepted, further_recorded, further_session, steps_recorded}
use Rattle.sweeps.specs.Asked.{asked}
use Rattle.undo_journal.specs.Blocks.{HasLeft, block_steps}
use Rattle.sweeps.proofs.BlockRecord.{steps_are, near_fits, far_fits, has_left}
use Rattle.sweeps.proofs.blocks.block_of.Goals as goal

pub returns-in-Ok-draw_block-clause-ok : goal.returns-in-Ok-draw_block-clause-ok
returns-in-Ok-draw_block-clause-ok c = (
  sym (ap (λ M. block_refusal M c.args.solid c.args.corner c.args.size.x c.args.size.y c.args.size.z) c.arena-arena.ensures.model) ∙ verdict_passed _ _ (sym c.in_default.is ∙ c.check_block.ensures),
  further_accepted _ _ _ _ (λ M. block_model M c.args.solid c.args.corner c.args.size.x c.args.size.y c.args.size.z) c.in-Ok.ensures.ok c.in-Ok-draw_block.ensures.further c.in-Ok-draw_block.ensures.ok c.commit_block.ensures,
)

pub draw_block-requires-clause-taken : goal.draw_block-requires-clause-taken
draw_block-requires-clause-taken c = c.counters_of-taken.ensures.is ∙ ap taken_in c.arena-arena.ensures.model ∙ sym (ap (λ (d : DraftJournal). taken_in d.model) c.in-Ok.ensures.ok)

pub returns-in-Err-draw_block-clause-err : goal.returns-in-Err-draw_block-clause-err
returns-in-Err-draw_block-clause-err c = let same = further_session _ _ c.in-Err-draw_block.ensures.further ∙ ap (λ (d : DraftJournal). d.session) c.in-Ok.ensures.ok in search rules

pub returns-in-Ok-draw_block-clause-recorded : goal.returns-in-Ok-draw_block-clause-recorded
returns-in-Ok-draw_block-clause-recorded c = further_recorded _ _ _ _ c.in-Ok.ensures.ok c.in-Ok-draw_block.ensures.further c.commit_block.ensures

pub returns-in-Ok-draw_block-clause-record : goal.returns-in-Ok-draw_block-clause-record
returns-in-Ok-draw_block-clause-record c = steps_recorded _ _ _ _ (λ M. block_operators M c.args.solid c.args.corner c.args.size.x c.args.size.y c.args.size.z) c.in-Ok.ensures.ok c.in-Ok-draw_block.ensures.steps c.commit_block.ensures

pub asked-block-requires : goal.asked-block-requires
asked-block-requires c =
    let goes = sym (ap (λ M. block_refusal M c.args.solid c.args.corner c.args.size.x c.args.size.y c.args.size.z) c.arena-arena.ensures.model) ∙ verdict_passed _ _ (sym c.in_default.is ∙ c.check_block.ensures) in
    record { corner = near_fits _ c.args.solid c.args.corner _ _ _ goes; opposite = far_fits _ c.args.solid c.args.corner _ _ _ goes }

pub commit_block-requires : goal.commit_block-requires
commit_block-requires c =
    let goes = sym (ap (λ M. block_refusal M c.args.solid c.args.corner c.args.size.x c.args.size.y c.args.size.z) c.arena-arena.ensures.model) ∙ verdict_passed _ _ (sym c.in_default.is ∙ c.check_block.ensures) in
    let is = c.asked-block.ensures ∙ ap (λ t. asked t c.args.solid c.args.corner c.args.size) (c.counters_of-taken.ensures.is ∙ ap taken_in c.arena-arena.ensures.model) in
    let made = c.in-Ok-draw_block.ensures.steps ∙ ap (λ (d : DraftJournal). after_steps d (block_operators d.model c.args.solid c.args.corner c.args.size.x c.args.size.y c.args.size.z)) c.in-Ok.ensures.ok in
    record {
      left = subst HasLeft (sym is) (has_left _ c.args.solid c.args.corner _ _ _ goes);
      steps = ap block_steps is ∙ steps_are _ c.args.solid c.args.corner _ _ _ goes (subst Sound c.arena-arena.ensures.model c.arena-arena.ensures.ready.sound) ∙ sym (ap (λ (d : DraftJournal). d.forward) made);
    }
