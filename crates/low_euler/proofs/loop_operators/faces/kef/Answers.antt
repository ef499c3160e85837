use Rattle.low_euler.proofs.Prelude.{sym, ap, ◌∙◌, subst, code, mate, loop_of, face_of, Store, join, take_loop, take_face, IsStanding, take_out, kill_edge}
use Rattle.low_euler.proofs.loop_operators_laws.KefSteps as steps
use Rattle.low_euler.proofs.loop_operators.faces.kef.Goals as goal

pub loop_of-killed-requires : goal.loop_of-killed-requires
loop_of-killed-requires c = steps.mate_there _ _ c.requires _ c.mate-mate.ensures

pub face_of-face-requires : goal.face_of-face-requires
face_of-face-requires c = steps.gone_there _ _ c.requires _ (c.loop_of-killed.ensures ∙ ap (loop_of c.args.arena.now.model) c.mate-mate.ensures)

pub join-requires : goal.join-requires
join-requires c = steps.join_asks _ _ c.requires _ c.mate-mate.ensures

pub kill_edge-requires : goal.kill_edge-requires
kill_edge-requires c =
    let e1 = sym (c.join.ensures ∙ ap (join c.args.arena.now (code c.args.half)) c.mate-mate.ensures) in
    record {
      mate = subst (λ (t : Store). IsStanding t.model (mate (code c.args.half))) e1 (steps.m_stands _ _ c.requires);
      half = subst (λ t. IsStanding (take_out t (mate (code c.args.half))).model (code c.args.half)) e1 (steps.h_stands _ _ c.requires);
    }

pub take_loop-requires : goal.take_loop-requires
take_loop-requires c =
    let e1 = c.join.ensures ∙ ap (join c.args.arena.now (code c.args.half)) c.mate-mate.ensures in
    let e2 = c.kill_edge.ensures ∙ ap (λ t. kill_edge t (code c.args.half)) e1 in
    let killed = c.loop_of-killed.ensures ∙ ap (loop_of c.args.arena.now.model) c.mate-mate.ensures in
    let gone = steps.gone_bare _ _ c.requires _ _ killed e2 in record { there = gone.0; bare = gone.1 }

pub take_face-requires : goal.take_face-requires
take_face-requires c =
    let e1 = c.join.ensures ∙ ap (join c.args.arena.now (code c.args.half)) c.mate-mate.ensures in
    let e2 = c.kill_edge.ensures ∙ ap (λ t. kill_edge t (code c.args.half)) e1 in
    let killed = c.loop_of-killed.ensures ∙ ap (loop_of c.args.arena.now.model) c.mate-mate.ensures in
    let e3 = c.take_loop.ensures ∙ (λ i. take_loop (e2 i) (killed i)) in
    steps.face_still _ _ c.requires _ _ (c.face_of-face.ensures ∙ ap (face_of c.args.arena.now.model) killed) e3

pub returns : goal.returns
returns c =
    let e1 = c.join.ensures ∙ ap (join c.args.arena.now (code c.args.half)) c.mate-mate.ensures in
    let e2 = c.kill_edge.ensures ∙ ap (λ t. kill_edge t (code c.args.half)) e1 in
    let killed = c.loop_of-killed.ensures ∙ ap (loop_of c.args.arena.now.model) c.mate-mate.ensures in
    let e3 = c.take_loop.ensures ∙ (λ i. take_loop (e2 i) (killed i)) in
    let face = c.face_of-face.ensures ∙ ap (face_of c.args.arena.now.model) killed in
    c.take_face.ensures ∙ (λ i. take_face (e3 i) (face i)) ∙ steps.made_is _ _ c.requires
