use Rattle.commands.proofs.Prelude.{List, subst, rules, on_ok_weaker, Point, TellsDraft, told_of}
use Rattle.call_types.specs.declared.command.Change.TheVariants as change
use Rattle.call_types.specs.declared.command.Command.TheVariants as command
use Rattle.commands.proofs.Settling.{settled, settled_exactly}
use Rattle.commands.proofs.drafting.change_in.Goals as goal

pub returns-in-Lamina : goal.returns-in-Lamina
returns-in-Lamina c =
    let r = c.lamina_in.result in let e = c.lamina_in.ensures in
    rw c.in-Lamina.is (subst (λ (ps : List Point). TellsDraft c.args.draft.now (command.Change (change.Lamina c.in-Lamina.solid ps)) (told_of r) c.lamina_in.new.draft) c.points.ensures
    (settled_exactly _ _ _ _ r e.ok (on_ok_weaker r (λ steps. (e.further, steps)) e.steps) e.refused e.err))

pub returns-in-Sweep : goal.returns-in-Sweep
returns-in-Sweep c =
    let r = c.sweep_in.result in let e = c.sweep_in.ensures in
    rw c.in-Sweep.is (settled_exactly _ _ _ _ r e.ok (on_ok_weaker r (λ steps. (e.further, steps)) e.steps) e.refused e.err)

pub returns-in-Glue : goal.returns-in-Glue
returns-in-Glue c =
    let r = c.glue_in.result in let e = c.glue_in.ensures in
    rw c.in-Glue.is (settled _ _ _ _ _ r e.ok (on_ok_weaker r (λ steps. (e.further, steps)) e.steps) e.refused e.memory e.err)

pub returns-in-Split : goal.returns-in-Split
returns-in-Split c = search rules
