use Rattle.script_running.proofs.Prelude.{◌∙◌, Some, refl, ap, Command, Stage, settled_move, told_of_move}
use Rattle.call_types.specs.declared.command.Call.{Call}
use Rattle.script_running.proofs.Acting.{draft_lacks, heeds_so, none_heeds}
use Rattle.script_running.proofs.script_judging.calls.undo.Goals as goal

pub returns-in-Some-Session : goal.returns-in-Some-Session
returns-in-Some-Session c =
    let e = c.undo-ended in let t = e.new.self in let there = c.in-Some-Session.is ∙ ap (λ (g : Stage). Some g) c.in-Some-Session.field-0-is in
    heeds_so _ _ _ (Call.Give Command.Undo) _ (Stage.Session t) (told_of_move e.result) there refl
    (t, refl, settled_move _ _ _ e.result e.ensures.ok e.ensures.refused e.ensures.err) c.keep_move.ensures.kept c.keep_move.ensures.kind

pub returns-in-Some-Drafting : goal.returns-in-Some-Drafting
returns-in-Some-Drafting c = let d = c.in-Some-Drafting in draft_lacks _ _ Command.Undo d.field-0 d.field-0-0 d.is refl d.field-0-is (d.field-0-0, refl, (refl, refl)) refl

pub returns-in-None : goal.returns-in-None
returns-in-None c = none_heeds _ _ _ _ c.in-None.is
