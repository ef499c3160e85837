use Rattle.low_euler.proofs.Prelude.{◌≡◌, true, is_some, sym, ap, ◌∙◌, subst, code, mate, face_of, Store, put_loop, cut, IsStanding, take_out, kill_edge}
use Rattle.euler_operators.specs.Table as table
use Rattle.low_euler.proofs.loop_operators_laws.KemrSteps as steps
use Rattle.low_euler.proofs.loop_operators.loops.kemr.Goals as goal

pub loop_of-requires : goal.loop_of-requires
loop_of-requires c = (steps.goes _ _ _ c.requires).h_there

pub face_of-face-requires : goal.face_of-face-requires
face_of-face-requires c = subst (λ q. table.has c.args.arena.now.model.loops q ≡ true) (sym c.loop_of.ensures) (steps.loop_there _ _ _ c.requires)

pub put_loop-requires-clause-face_room : goal.put_loop-requires-clause-face_room
put_loop-requires-clause-face_room c =
    let face = c.face_of-face.ensures ∙ ap (face_of c.args.arena.now.model) c.loop_of.ensures in
    c.has-in_use.ensures.room (c.has-in_use.ensures.used ∙ ap (table.has c.args.arena.now.model.faces) face ∙ steps.face_there _ _ _ c.requires)

pub put_loop-requires-clause-free : goal.put_loop-requires-clause-free
put_loop-requires-clause-free c = ap is_some (steps.goes _ _ _ c.requires).loop_free

pub cut-requires : goal.cut-requires
cut-requires c =
    let e1 = c.put_loop.ensures ∙ ap (put_loop c.args.arena.now c.args.ring) (c.face_of-face.ensures ∙ ap (face_of c.args.arena.now.model) c.loop_of.ensures) in
    steps.cut_asks _ _ _ c.requires _ _ e1 c.mate.ensures

pub kill_edge-requires : goal.kill_edge-requires
kill_edge-requires c =
    let e1 = c.put_loop.ensures ∙ ap (put_loop c.args.arena.now c.args.ring) (c.face_of-face.ensures ∙ ap (face_of c.args.arena.now.model) c.loop_of.ensures) in
    let e2 = sym (c.cut.ensures ∙ (λ i. cut (e1 i) (code c.args.half) (c.mate.ensures i) c.args.ring)) in
    record {
      mate = subst (λ (t : Store). IsStanding t.model (mate (code c.args.half))) e2 (steps.m_parted _ _ _ c.requires);
      half = subst (λ t. IsStanding (take_out t (mate (code c.args.half))).model (code c.args.half)) e2 (steps.h_first _ _ _ c.requires);
    }

pub returns : goal.returns
returns c =
    let e1 = c.put_loop.ensures ∙ ap (put_loop c.args.arena.now c.args.ring) (c.face_of-face.ensures ∙ ap (face_of c.args.arena.now.model) c.loop_of.ensures) in
    let e2 = c.cut.ensures ∙ (λ i. cut (e1 i) (code c.args.half) (c.mate.ensures i) c.args.ring) in
    c.kill_edge.ensures ∙ ap (λ t. kill_edge t (code c.args.half)) e2 ∙ steps.made_is _ _ _ c.requires
