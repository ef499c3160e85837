use Rattle.session_slots.specs.Common.{Counts_in, part_asked}
use Rattle.session_slots.specs.Opening.{stage_in}
use Rattle.gwb_c.proofs.Going.{goes, stays}
use Rattle.gwb_c.proofs.parts.part.Goals as goal

pub put-requires-clause-staged : goal.put-requires-clause-staged
put-requires-clause-staged c = let k = c.part-kind in stays c.in-Some.slot _ k.new.slot c.slot_mut.ensures.value c.in-Some.ensures.staged _ _ k.ensures.heeds

pub returns : goal.returns
returns c = let k = c.part-kind in goes c.in-Some.slot _ k.new.slot c.slot_mut.ensures.value c.in-Some.ensures.staged (λ o. part_asked (stage_in o) c.args.faces.now c.args.solid) _ (λ x y. Counts_in x y.before) _ _ c.in-Some.ensures.slot c.put.ensures k.ensures.heeds k.ensures.noted
