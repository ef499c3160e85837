use Rattle.low_euler.proofs.Prelude.{sym, ap, ◌∙◌, Table, LoopRow, outer, Has, effect, kfmrh, Store, set_face, take_face, kfmrh_goes}
use Rattle.euler_operators.specs.Table as table
use Rattle.low_euler.proofs.face_operators_laws.Rows.{loop_moved}
use Rattle.low_euler.proofs.face_operators.rings.kfmrh.Goals as goal

pub give_loop-requires-clause-there : goal.give_loop-requires-clause-there
give_loop-requires-clause-there c =
    let M = c.args.arena.now.model in
    ap (table.has M.loops) c.outer-ring.ensures ∙ (c.requires.ready.sound.outers_there c.args.killed (kfmrh_goes M c.args.kept c.args.killed c.requires.holds).g_there).0

pub returns : goal.returns
unfolding effect kfmrh
returns c =
    let s = c.args.arena.now in let M = s.model in
    let there : Has M.loops (outer M c.args.killed) = (c.requires.ready.sound.outers_there c.args.killed (kfmrh_goes M c.args.kept c.args.killed c.requires.holds).g_there).0 in
    c.take_face.ensures ∙ ap (λ (a : Store). take_face a c.args.killed) (c.give_loop.ensures ∙ ap (λ l. set_face s l c.args.kept) c.outer-ring.ensures)
    ∙ ap (λ (t : Table LoopRow). record s { model = record M { faces = table.remove M.faces c.args.killed; loops = t } }) (sym (loop_moved M (outer M c.args.killed) c.args.kept there))
