use Rattle.commands.proofs.Prelude.{refl, sym, subst, Drafting, OpenDraft, Session, Stage, Tells, told_of}
use Rattle.call_types.specs.declared.command.Call.TheVariants as call
use Rattle.call_types.specs.declared.command.Change.TheVariants as change
use Rattle.call_types.specs.declared.command.Command.TheVariants as command
use Rattle.commands.proofs.making.act.Goals as goal

pub returns-in-Session : goal.returns-in-Session
returns-in-Session c =
    let t = c.act.new.self in
    subst (λ (g : Stage). Tells g (call.Give (command.Change (change.Act c.args.op))) (told_of c.act.result) (Session t)) (sym c.in-Session.is) (t, refl, c.act.ensures)

pub returns-in-Drafting : goal.returns-in-Drafting
returns-in-Drafting c =
    let e : OpenDraft = record { draft = c.act_on_draft.new.draft } in
    subst (λ (g : Stage). Tells g (call.Give (command.Change (change.Act c.args.op))) (told_of c.act_on_draft.result) (Drafting e)) (sym c.in-Drafting.is) (e, refl, c.act_on_draft.ensures)
