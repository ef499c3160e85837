use Rattle.std.proofs.Common.{◌∙◌, sym}
use Rattle.session_slots.proofs.Numbers.{absent_items}
use Rattle.session_slots.proofs.Overlaid.{same_none, writes_same}
use Rattle.session_slots.proofs.cycles.half_edges.Goals as goal

pub returns-then-not-has : goal.returns-then-not-has
returns-then-not-has c = same_none c.args.arena.now.model c.args.l c.args.buf.now (absent_items c.args.arena.now.model c.args.l (sym c.has.ensures.used ∙ c.if-not-has.true))

pub returns : goal.returns
returns c = writes_same c.args.arena.now.model c.args.l c.args.buf.now c.write_loop.new.buf c.write_loop.result c.write_loop.ensures
