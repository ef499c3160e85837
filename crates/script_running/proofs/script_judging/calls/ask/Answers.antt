use Rattle.script_running.proofs.Prelude.{◌∙◌, ap, sym, asked, Command, status_of}
use Rattle.call_types.specs.declared.command.Call.{Call}
use Rattle.script_running.proofs.Acting.{heeds_so, answered, asked_kept, none_heeds}
use Rattle.script_running.proofs.script_judging.calls.ask.Goals as goal

pub returns-in-Some : goal.returns-in-Some
returns-in-Some c =
    let q = c.args.question in let M = c.arena.result.now.model in let x = c.args.console.now in
    heeds_so x _ _ (Call.Give (Command.Ask q)) _ _ (asked M q) c.in-Some.is c.in-Some.is (answered c.in-Some.stage q M c.arena.ensures.model) (c.ask-told.ensures ∙ sym (asked_kept x.answer M q)) (c.status.ensures ∙ ap status_of c.ask-told.ensures)

pub returns : goal.returns
returns c = none_heeds _ _ _ _ c.in_default.is
