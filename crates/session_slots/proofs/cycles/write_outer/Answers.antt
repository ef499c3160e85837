use Rattle.session_slots.proofs.Prelude.{◌∙◌, ap, subst, WritesFrom, AreTold, row_of}
use Rattle.euler_operators.specs.Table as table
use Rattle.session_slots.proofs.FaceRows.{face_outer}
use Rattle.session_slots.proofs.cycles.write_outer.Goals as goal

pub write_loop-requires-clause-there : goal.write_loop-requires-clause-there
write_loop-requires-clause-there c =
    let M = c.args.arena.now.model in ap (table.has M.loops) c.outer.ensures ∙ (c.requires.ready.sound.outers_there c.args.f c.requires.there).0

pub returns : goal.returns
returns c =
    let M = c.args.arena.now.model in let old = c.args.rows.now in let new = c.write_loop.new.buf in
    face_outer M c.requires.ready.sound c.args.f old c.requires.there c.requires.bare new c.write_loop.result
    (subst (λ l. WritesFrom (AreTold row_of l M) 0 old new c.write_loop.result) c.outer.ensures c.write_loop.ensures)
