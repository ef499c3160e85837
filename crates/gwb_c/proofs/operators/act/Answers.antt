use Rattle.session_slots.specs.Common.{Notes, act_of, calls}
use Rattle.gwb_c.proofs.Going.{goes, stays}
use Rattle.gwb_c.proofs.operators.act.Goals as goal

pub put-requires-clause-staged : goal.put-requires-clause-staged
put-requires-clause-staged c = let k = c.act-kind in stays c.in-Some.slot _ k.new.slot c.slot_mut.ensures.value c.in-Some.ensures.staged _ _ k.ensures.heeds

pub returns : goal.returns
returns c = let k = c.act-kind in goes c.in-Some.slot _ k.new.slot c.slot_mut.ensures.value c.in-Some.ensures.staged (λ o. calls (act_of c.args.op)) _ (λ x y. Notes x y k.result) _ _ c.in-Some.ensures.slot c.put.ensures k.ensures.heeds k.ensures.noted
