use Rattle.low_euler.proofs.Prelude.{ap, subst, ◌∙◌, face_of, outer, Has, effect, take_outer, Store, set_face, set_outer, outer_goes_so}
use Rattle.euler_operators.specs.Table as table
use Rattle.low_euler.proofs.face_operators_laws.Swaps.{swapped}
use Rattle.low_euler.proofs.face_operators.rings.outer.Goals as goal

pub outer-old-requires : goal.outer-old-requires
outer-old-requires c = ap (table.has _) c.face_of-home.ensures ∙ c.requires.ready.sound.loops_of_faces _ (outer_goes_so _ _ _ c.requires.holds).l_there

pub set_outer-requires : goal.set_outer-requires
set_outer-requires c = ap (table.has _) c.face_of-home.ensures ∙ c.requires.ready.sound.loops_of_faces _ (outer_goes_so _ _ _ c.requires.holds).l_there

pub give_loop-requires-clause-there : goal.give_loop-requires-clause-there
give_loop-requires-clause-there c =
    let M = c.args.arena.now.model in
    let home : Has M.faces c.face_of-home.result = ap (table.has M.faces) c.face_of-home.ensures ∙ c.requires.ready.sound.loops_of_faces c.args.ring (outer_goes_so M c.args.ring c.args.face c.requires.holds).l_there in
    ap (λ (s : Store). table.has s.model.loops c.outer-old.result) c.set_outer.ensures ∙ ap (table.has M.loops) c.outer-old.ensures ∙ (c.requires.ready.sound.outers_there c.face_of-home.result home).0

pub returns : goal.returns
unfolding effect take_outer
returns c =
    let s = c.args.arena.now in let M = s.model in
    let home : Has M.faces c.face_of-home.result = ap (table.has M.faces) c.face_of-home.ensures ∙ c.requires.ready.sound.loops_of_faces c.args.ring (outer_goes_so M c.args.ring c.args.face c.requires.holds).l_there in
    let home_is = c.face_of-home.ensures in
    let at_home : Has M.faces (face_of M c.args.ring) = subst (Has M.faces) home_is home in
    let old_is = c.outer-old.ensures ∙ ap (outer M) home_is in
    c.give_loop.ensures ∙ ap (λ (a : Store). set_face a c.outer-old.result c.args.face) c.set_outer.ensures
    ∙ (λ i. set_face (set_outer s (home_is i) c.args.ring) (old_is i) c.args.face)
    ∙ swapped s (face_of M c.args.ring) c.args.ring (outer M (face_of M c.args.ring)) c.args.face at_home (c.requires.ready.sound.outers_there (face_of M c.args.ring) at_home).0
