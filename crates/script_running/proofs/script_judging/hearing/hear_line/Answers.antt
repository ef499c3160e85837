use Rattle.script_running.proofs.Prelude.{◌∙◌, sym, ap, opened}
use Rattle.script_running.proofs.Hearing.{words_heard}
use Rattle.script_running.proofs.script_judging.hearing.hear_line.Goals as goal

pub returns-then-is_operator : goal.returns-then-is_operator
returns-then-is_operator c =
    words_heard c.args.line.now _ c.args.console.now c.hear_operator.new.console c.hear_operator.result (sym c.is_long.ensures ∙ c.if-is_long.false) (sym (ap opened c.in-Command.ensures)) c.hear_operator.ensures

pub returns-in-Command : goal.returns-in-Command
returns-in-Command c =
    words_heard c.args.line.now _ c.args.console.now c.hear_other.new.console c.hear_other.result (sym c.is_long.ensures ∙ c.if-is_long.false) (sym (ap opened c.in-Command.ensures)) c.hear_other.ensures
