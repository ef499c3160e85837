use Rattle.session_slots.proofs.Prelude.{Option, false, refl, sym, subst, Slot, Opened}
use Rattle.session_slots.proofs.handle.begin.Goals as goal

pub returns-in-Some : goal.returns-in-Some
returns-in-Some c = subst (λ (o : Option Slot). Opened o c.put.new.gwb.kept.value false) (sym c.in-Some.ensures.slot) (refl, c.put.ensures)
