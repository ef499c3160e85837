use Rattle.low_euler.proofs.Prelude.{is_some, ap, ◌∙◌, Table, put, FaceRow, face_of, solid_of, Has, effect, mfkrh, get-put_here, Store, put_face, set_face, mfkrh_goes}
use Rattle.euler_operators.specs.Table as table
use Rattle.low_euler.proofs.face_operators_laws.Swaps.{loop_given}
use Rattle.low_euler.proofs.face_operators.rings.mfkrh.Goals as goal

pub solid_of-solid-requires : goal.solid_of-solid-requires
solid_of-solid-requires c = ap (table.has _) c.face_of.ensures ∙ c.requires.ready.sound.loops_of_faces _ (mfkrh_goes _ _ _ c.requires.holds).l_there

pub put_face-requires-clause-solid_room : goal.put_face-requires-clause-solid_room
put_face-requires-clause-solid_room c =
    let M = c.args.arena.now.model in
    let home : Has M.faces c.face_of.result = ap (table.has M.faces) c.face_of.ensures ∙ c.requires.ready.sound.loops_of_faces c.args.ring (mfkrh_goes M c.args.ring c.args.made c.requires.holds).l_there in
    c.has-in_use.ensures.room (c.has-in_use.ensures.used ∙ ap (table.has M.solids) c.solid_of-solid.ensures ∙ c.requires.ready.sound.faces_of_solids c.face_of.result home)

pub give_loop-requires-clause-face : goal.give_loop-requires-clause-face
give_loop-requires-clause-face c =
    ap (λ (s : Store). table.has s.model.faces c.args.made) c.put_face.ensures ∙ ap is_some (get-put_here c.args.arena.now.model.faces c.args.made _)

pub returns : goal.returns
unfolding effect mfkrh
returns c =
    let s = c.args.arena.now in let M = s.model in let l = c.args.ring in let f = c.args.made in
    let solid_is = c.solid_of-solid.ensures ∙ ap (solid_of M) c.face_of.ensures in
    let faces : Table FaceRow = put M.faces f (record { solid = solid_of M (face_of M l); outer = l }) in
    c.give_loop.ensures ∙ ap (λ (a : Store). set_face a l f) (c.put_face.ensures ∙ ap (λ n. put_face s f n l) solid_is)
    ∙ ap (λ t. record s { model = record M { faces = faces; loops = t } }) (loop_given M faces l f (mfkrh_goes M l f c.requires.holds).l_there)
