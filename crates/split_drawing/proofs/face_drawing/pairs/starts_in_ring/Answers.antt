use Rattle.split_drawing.proofs.Prelude.{sym, subst, code, Has, loop_there}
use Rattle.split_drawing.proofs.face_drawing.pairs.starts_in_ring.Goals as goal

pub face_of-requires : goal.face_of-requires
face_of-requires c = let M = c.args.arena.now.model in subst (Has M.loops) (sym c.loop_of-l.ensures) (loop_there M c.requires.ready.sound (code c.args.pair.up) c.requires.up)

pub is_ring-requires : goal.is_ring-requires
is_ring-requires c =
    let M = c.args.arena.now.model in
    let there = subst (Has M.loops) (sym c.loop_of-l.ensures) (loop_there M c.requires.ready.sound (code c.args.pair.up) c.requires.up) in
    subst (Has M.faces) (sym c.face_of.ensures) (c.requires.ready.sound.loops_of_faces c.loop_of-l.result there)
