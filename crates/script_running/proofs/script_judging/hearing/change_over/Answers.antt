use Rattle.script_running.proofs.Prelude.{◌∙◌, ap, subst, ConsoleHeeds, changes}
use Rattle.script_reader.specs.Polygon.{over}
use Rattle.script_running.proofs.script_judging.hearing.change_over.Goals as goal

pub returns : goal.returns
returns c = subst (λ w. ConsoleHeeds c.args.console.now (changes w) c.change.new.console c.change.result) (c.over.ensures ∙ ap (over c.args.outline) c.corners-corners.ensures) c.change.ensures
