use Rattle.session_slots.proofs.Prelude.{◌≡◌, Some, None, refl, subst, Op, Refusal, Model, Told, Stage, shown, Tells, act_of}
use Rattle.commands.specs.declared.stage.Stage.TheVariants.{Session, Drafting}
use Rattle.euler_operators.specs.Common.{first_false}
use Rattle.session_slots.proofs.Queried.{is_false, none_false}
use Rattle.session_slots.proofs.parts.unlisted.Goals as goal

lacks_memory : (g : Stage) (op : Op) → first_false (shown g) op ≡ None → Tells g (act_of op) Told.Memory g
lacks_memory (Session s) op e = (s, refl, (e, refl))
lacks_memory (Drafting d) op e = (d, refl, (e, refl))

refused : (g : Stage) (op : Op) (r : Refusal) → first_false (shown g) op ≡ Some r → Tells g (act_of op) (Told.Refused r) g
refused (Session s) op r e = (s, refl, (e, refl))
refused (Drafting d) op r e = (d, refl, (e, refl))

pub returns-in-Ok : goal.returns-in-Ok
returns-in-Ok c =
    let g = c.args.stage.now in let op = Op.Part c.args.from c.args.made c.args.faces.now in
    lacks_memory g op (subst (λ (M : Model). first_false M op ≡ None) c.arena.ensures.model (none_false (first_false c.arena.result.now.model op) tt c.in-Ok.ensures))

pub returns-in-Err : goal.returns-in-Err
returns-in-Err c =
    let g = c.args.stage.now in let op = Op.Part c.args.from c.args.made c.args.faces.now in
    refused g op c.in-Err.refusal
    (subst (λ (M : Model). first_false M op ≡ Some c.in-Err.refusal) c.arena.ensures.model (is_false (first_false c.arena.result.now.model op) c.in-Err.refusal c.in-Err.ensures))
