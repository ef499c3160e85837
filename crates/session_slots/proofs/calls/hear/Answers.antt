use Rattle.std.proofs.Common.{◌∙◌, ap, sym, subst}
use Rattle.session_slots.specs.Common.{Console, spoken, taken_of}
unfoldable use Rattle.session_slots.specs.Common.{ConsoleHeeds}
use Rattle.session_slots.proofs.calls.hear.Goals as goal

pub returns-clause-heeds : goal.returns-clause-heeds
returns-clause-heeds c = subst (λ (x : Console). ConsoleHeeds c.args.slot.now.console (spoken c.args.line.now) x c.hear-kind.result) (sym c.note.ensures.console) c.hear-kind.ensures

pub returns-clause-noted : goal.returns-clause-noted
returns-clause-noted c = ((λ had g is. ap taken_of (c.note.ensures.had had) ∙ c.counted_in-before.ensures g is), c.note.ensures.lacking)
