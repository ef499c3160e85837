use Rattle.script_running.proofs.Prelude.{◌∙◌, Some, refl, sym, ap, Stage}
use Rattle.call_types.specs.declared.command.Call.{Call}
use Rattle.call_types.specs.declared.command.Command.{Command}
use Rattle.commands.specs.declared.stage.OpenDraft.{OpenDraft}
use Rattle.script_running.proofs.Acting.{heeds_so, none_heeds}
use Rattle.script_running.proofs.script_judging.calls.change.Goals as goal

pub returns-in-Some-Session : goal.returns-in-Some-Session
returns-in-Some-Session c =
    let t = c.change-session.result.0 in
    let there = sym c.take.ensures.value ∙ c.in-Some-Session.is ∙ ap (λ (g : Stage). Some g) c.in-Some-Session.field-0-is in
    heeds_so _ _ _ (Call.Give (Command.Change c.args.wanted)) _ (Stage.Session t) _ there refl (t, refl, c.change-session.ensures) c.keep_outcome.ensures.kept c.keep_outcome.ensures.kind

pub returns-in-Some-Drafting : goal.returns-in-Some-Drafting
returns-in-Some-Drafting c =
    let e : OpenDraft = record { draft = c.change_in-ended.new.draft } in
    let there = sym c.take.ensures.value ∙ c.in-Some-Drafting.is ∙ ap (λ (g : Stage). Some g) c.in-Some-Drafting.field-0-is in
    heeds_so _ _ _ (Call.Give (Command.Change c.args.wanted)) _ (Stage.Drafting e) _ there refl (e, refl, c.change_in-ended.ensures) c.keep_outcome-in-Some-Drafting.ensures.kept c.keep_outcome-in-Some-Drafting.ensures.kind

pub returns-in-None : goal.returns-in-None
returns-in-None c = none_heeds _ _ _ _ (sym c.take.ensures.value ∙ c.in-None.is)
