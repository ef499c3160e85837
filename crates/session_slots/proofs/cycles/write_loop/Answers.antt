use Rattle.session_slots.proofs.Prelude.{◌∙◌, sym, ap, subst, content, loop_of, cycle_of, HasHalf, filled, told_there, edge_fits}
use Rattle.session_slots.proofs.Numbers.{told_cycle, told_loop, lone_items}
use Rattle.session_slots.proofs.Overlaid.{writes_none, writes_from}
use Rattle.session_slots.proofs.cycles.write_loop.Goals as goal

pub content-requires-clause-filled : goal.content-requires-clause-filled
content-requires-clause-filled g c = filled c.args.arena.now.model c.requires.sound c.args.l c.requires.there

pub code-requires : goal.code-requires
code-requires g c =
    let M = c.args.arena.now.model in edge_fits M c.requires.sound c.in-Ring.half (told_there M c.requires.sound c.args.l c.in-Ring.half c.in-Ring.ensures)

pub write_from-requires-clause-there : goal.write_from-requires-clause-there
write_from-requires-clause-there g c = subst (HasHalf c.args.arena.now.model) (sym c.code.ensures) (told_there c.args.arena.now.model c.requires.sound c.args.l c.in-Ring.half c.in-Ring.ensures)

pub write_from-requires-clause-of_loop : goal.write_from-requires-clause-of_loop
write_from-requires-clause-of_loop g c =
    let M = c.args.arena.now.model in sym (ap (loop_of M) c.code.ensures ∙ told_loop M c.requires.sound c.args.l c.in-Ring.half c.in-Ring.ensures)

pub returns-in-Lone : goal.returns-in-Lone
returns-in-Lone g c =
    let M = c.args.arena.now.model in writes_none g.T.Written.told M c.args.l c.args.place c.args.buf.now (lone_items (content M c.args.l) _ c.in-Lone.ensures)

pub returns-in-Ring : goal.returns-in-Ring
returns-in-Ring g c =
    let M = c.args.arena.now.model in
    writes_from g.T.Written.told M c.args.l c.args.place c.code.result _ c.args.buf.now c.write_from.new.buf c.write_from.result
    (ap (cycle_of M) c.code.ensures ∙ told_cycle M c.requires.sound c.args.l c.in-Ring.half c.in-Ring.ensures) c.write_from.ensures.count c.write_from.ensures.items
