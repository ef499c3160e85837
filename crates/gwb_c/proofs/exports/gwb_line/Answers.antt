use Rattle.session_slots.specs.Common.{Notes, spoken}
use Rattle.gwb_c.proofs.Going.{goes, stays}
use Rattle.gwb_c.proofs.exports.gwb_line.Goals as goal

pub put-requires-clause-staged : goal.put-requires-clause-staged
put-requires-clause-staged c = let k = c.hear-kind in stays c.in-Some.slot _ k.new.slot c.slot_mut.ensures.value c.in-Some.ensures.staged _ _ k.ensures.heeds

pub returns : goal.returns
returns c = let k = c.hear-kind in goes c.in-Some.slot _ k.new.slot c.slot_mut.ensures.value c.in-Some.ensures.staged (λ o. spoken c.args.line.now) _ (λ x y. Notes x y k.result) _ _ c.in-Some.ensures.slot c.put.ensures k.ensures.heeds k.ensures.noted
