use Rattle.script_running.proofs.Prelude.{◌∙◌, ap, sym, subst, Command, ConsoleHeeds, calls}
use Rattle.call_types.specs.declared.command.Call.{Call}
use Rattle.script_running.proofs.script_judging.calls.make.Goals as goal

pub returns-in-Give-Change : goal.returns-in-Give-Change
returns-in-Give-Change c =
    let is = c.in-Give-Change.is ∙ ap (λ (d : Command). Call.Give d) c.in-Give-Change.field-0-is in
    subst (λ (k : Call). ConsoleHeeds c.args.console.now (calls k) c.change.new.console c.change.result) (sym is) c.change.ensures

pub returns-in-Give-Ask : goal.returns-in-Give-Ask
returns-in-Give-Ask c =
    let is = c.in-Give-Ask.is ∙ ap (λ (d : Command). Call.Give d) c.in-Give-Ask.field-0-is in
    subst (λ (k : Call). ConsoleHeeds c.args.console.now (calls k) c.ask_apart.new.console c.ask_apart.result) (sym is) c.ask_apart.ensures

pub returns-in-Give-Undo : goal.returns-in-Give-Undo
returns-in-Give-Undo c =
    let is = c.in-Give-Undo.is ∙ ap (λ (d : Command). Call.Give d) c.in-Give-Undo.field-0-is in
    subst (λ (k : Call). ConsoleHeeds c.args.console.now (calls k) c.undo.new.console c.undo.result) (sym is) c.undo.ensures

pub returns-in-Give-Redo : goal.returns-in-Give-Redo
returns-in-Give-Redo c =
    let is = c.in-Give-Redo.is ∙ ap (λ (d : Command). Call.Give d) c.in-Give-Redo.field-0-is in
    subst (λ (k : Call). ConsoleHeeds c.args.console.now (calls k) c.redo.new.console c.redo.result) (sym is) c.redo.ensures
