use Rattle.std.proofs.Common.{◌∙◌, ap, sym, subst}
use Rattle.session_slots.specs.Common.{Console, Notes, calls, taken_of}
unfoldable use Rattle.session_slots.specs.Common.{ConsoleHeeds}
use Rattle.gwb_c.proofs.Going.{goes, stays}
use Rattle.gwb_c.proofs.calling.call.Goals as goal

pub put-requires-clause-staged : goal.put-requires-clause-staged
put-requires-clause-staged c = stays c.in-Some.slot _ c.note.new.slot c.slot_mut-open.ensures.value c.in-Some.ensures.staged (calls c.args.wanted) _
    (subst (λ (x : Console). ConsoleHeeds c.slot_mut-open.result.now.console (calls c.args.wanted) x c.make-kind.result) (sym c.note.ensures.console) c.make-kind.ensures)

pub returns : goal.returns
returns c = goes c.in-Some.slot _ c.note.new.slot c.slot_mut-open.ensures.value c.in-Some.ensures.staged (λ o. calls c.args.wanted) _ (λ x y. Notes x y c.make-kind.result) _ _ c.in-Some.ensures.slot c.put.ensures
    (subst (λ (x : Console). ConsoleHeeds c.slot_mut-open.result.now.console (calls c.args.wanted) x c.make-kind.result) (sym c.note.ensures.console) c.make-kind.ensures)
    ((λ had g is. ap taken_of (c.note.ensures.had had) ∙ c.counted_in-before.ensures g is), c.note.ensures.lacking)
