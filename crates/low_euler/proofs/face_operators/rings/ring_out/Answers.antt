use Rattle.low_euler.proofs.Prelude.{ap, ◌∙◌, Store, set_face, effect, ring_out, ring_out_goes}
use Rattle.euler_operators.specs.Table as table
use Rattle.low_euler.proofs.face_operators_laws.Swaps.{swapped, face_stays}
use Rattle.low_euler.proofs.face_operators.rings.ring_out.Goals as goal

pub set_outer-requires : goal.set_outer-requires
set_outer-requires c = (ring_out_goes c.args.arena.now.model c.args.ring c.args.face c.requires.holds).f_there

pub give_loop-requires-clause-there : goal.give_loop-requires-clause-there
give_loop-requires-clause-there c = ap (λ (s : Store). table.has s.model.loops c.args.ring) c.set_outer.ensures ∙ (ring_out_goes c.args.arena.now.model c.args.ring c.args.face c.requires.holds).l_there

pub give_loop-requires-clause-face : goal.give_loop-requires-clause-face
give_loop-requires-clause-face c =
    let has = ring_out_goes c.args.arena.now.model c.args.ring c.args.face c.requires.holds in
    ap (λ (s : Store). table.has s.model.faces c.args.face) c.set_outer.ensures ∙ face_stays c.args.arena.now c.args.face c.args.ring c.args.face has.f_there

pub returns : goal.returns
unfolding effect ring_out
returns c =
    let has = ring_out_goes c.args.arena.now.model c.args.ring c.args.face c.requires.holds in
    c.give_loop.ensures ∙ ap (λ (s : Store). set_face s c.args.ring c.args.face) c.set_outer.ensures
    ∙ swapped c.args.arena.now c.args.face c.args.ring c.args.ring c.args.face has.f_there has.l_there
