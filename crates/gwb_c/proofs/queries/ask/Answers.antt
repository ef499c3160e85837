use Rattle.std.proofs.Common.{◌≡◌, refl, sym, subst}
use Rattle.call_types.specs.declared.command.Call.TheVariants as call
use Rattle.call_types.specs.declared.command.Command.TheVariants as command
use Rattle.session_slots.specs.Common.{calls}
use Rattle.gwb_c.specs.Handle.{Recalls}
use Rattle.gwb_c.proofs.Going.{goes, stays}
use Rattle.gwb_c.proofs.queries.ask.Goals as goal

pub put-requires-clause-staged : goal.put-requires-clause-staged
put-requires-clause-staged g c = let k = c.ask-kind in stays c.in-Some.slot _ k.new.slot c.slot_mut.ensures.value c.in-Some.ensures.staged _ _ k.ensures.heeds

pub returns-clause-state : goal.returns-clause-state
returns-clause-state g c = let k = c.ask-kind in goes c.in-Some.slot _ k.new.slot c.slot_mut.ensures.value c.in-Some.ensures.staged (λ o. calls (call.Give (command.Ask c.args.question))) _ (λ x y. y.before ≡ x.before) _ _ c.in-Some.ensures.slot c.put.ensures k.ensures.heeds k.ensures.stay

pub returns-in_default-clause-value : goal.returns-in_default-clause-value
returns-in_default-clause-value g c = (9, subst (λ o. Recalls g.T.Value.gives o c.args.out.now c.args.out.now 9) (sym c.take.ensures.left) (refl, refl))
