use Rattle.low_euler.proofs.Prelude.{◌≡◌, true, false, is_some, sym, ap, ◌∙◌, subst, code, before, face_of, solid_of, Store, cut, put_face, IsStanding, IsUnused, with_edge, put_before}
use Rattle.euler_operators.specs.Table as table
use Rattle.low_euler.proofs.loop_operators_laws.MefSteps as steps
use Rattle.low_euler.proofs.loop_operators.faces.mef.Goals as goal

pub tail_and_prev-start-requires : goal.tail_and_prev-start-requires
tail_and_prev-start-requires c = (steps.goes _ _ _ _ _ _ c.requires).g_there

pub tail-end-requires : goal.tail-end-requires
tail-end-requires c = (steps.goes _ _ _ _ _ _ c.requires).k_there

pub loop_of-requires : goal.loop_of-requires
loop_of-requires c = (steps.goes _ _ _ _ _ _ c.requires).g_there

pub face_of-old_face-requires : goal.face_of-old_face-requires
face_of-old_face-requires c = subst (λ q. table.has c.args.arena.now.model.loops q ≡ true) (sym c.loop_of.ensures) (steps.loop_there _ _ _ _ _ _ c.requires)

pub solid_of-solid-requires : goal.solid_of-solid-requires
solid_of-solid-requires c =
    subst (λ q. table.has c.args.arena.now.model.faces q ≡ true) (sym (c.face_of-old_face.ensures ∙ ap (face_of c.args.arena.now.model) c.loop_of.ensures))
    (steps.face_there _ _ _ _ _ _ c.requires)

pub put_loop-requires-clause-free : goal.put_loop-requires-clause-free
put_loop-requires-clause-free c = ap is_some (steps.goes _ _ _ _ _ _ c.requires).loop_free

pub make_edge_after-requires : goal.make_edge_after-requires
make_edge_after-requires c =
    let edged = sym (λ i. with_edge (c.put_loop.ensures i) (code c.args.half) (c.tail_and_prev-start.ensures.tail i) (c.tail-end.ensures i)) in
    record {
      room = subst (λ (t : Store). table.has t.room.edges c.args.half.edge ≡ true) (sym c.put_loop.ensures) (steps.edge_room _ _ _ _ _ _ c.requires);
      free = subst (λ (t : Store). table.has t.model.edges c.args.half.edge ≡ false) (sym c.put_loop.ensures) (steps.edge_free _ _ _ _ _ _ c.requires);
      unused = subst (λ t. IsUnused t (code c.args.half)) (sym c.put_loop.ensures) (steps.unused _ _ _ _ _ _ c.requires);
      last = subst (λ (t : Store). code c.tail_and_prev-start.result.1 ≡ before t.model (code c.args.first)) edged (steps.before_first _ _ _ _ _ _ c.requires _ (c.tail_and_prev-start.ensures.in_loop (steps.loops _ _ _ _ _ _ c.requires).first_real));
      first = subst (λ (t : Store). IsStanding t.model (code c.args.first)) edged (steps.g_stands _ _ _ _ _ _ c.requires);
      second = subst (λ t. IsStanding (put_before t (code c.args.first) (code c.args.half)).model (code c.args.second)) edged (steps.k_stands _ _ _ _ _ _ c.requires);
      apart = λ e. absurd (steps.g_k _ _ _ _ _ _ c.requires (sym e));
    }

pub cut-requires : goal.cut-requires
cut-requires c =
    let e1 = steps.was_second _ _ _ _ _ _ c.requires _ _ _ _ c.put_loop.ensures c.tail_and_prev-start.ensures.tail c.tail-end.ensures c.make_edge_after.ensures in
    steps.cut_asks _ _ _ _ _ _ c.requires _ _ e1 c.mate.ensures

pub put_face-requires : goal.put_face-requires
put_face-requires c =
    let e1 = steps.was_second _ _ _ _ _ _ c.requires _ _ _ _ c.put_loop.ensures c.tail_and_prev-start.ensures.tail c.tail-end.ensures c.make_edge_after.ensures in
    let e2 = c.cut.ensures ∙ (λ i. cut (e1 i) (code c.args.half) (c.mate.ensures i) c.args.outer) in
    let solid = c.solid_of-solid.ensures ∙ ap (solid_of c.args.arena.now.model) (c.face_of-old_face.ensures ∙ ap (face_of c.args.arena.now.model) c.loop_of.ensures) in
    record {
      room = steps.face_room _ _ _ _ _ _ c.requires _ e2;
      free = steps.face_free _ _ _ _ _ _ c.requires _ e2;
      solid_room = steps.solid_room _ _ _ _ _ _ c.requires _ _ e2
          (c.has-in_use.ensures.room (c.has-in_use.ensures.used ∙ ap (table.has c.args.arena.now.model.solids) solid ∙ steps.solid_there _ _ _ _ _ _ c.requires));
    }

pub returns : goal.returns
returns c =
    let e1 = steps.was_second _ _ _ _ _ _ c.requires _ _ _ _ c.put_loop.ensures c.tail_and_prev-start.ensures.tail c.tail-end.ensures c.make_edge_after.ensures in
    let e2 = c.cut.ensures ∙ (λ i. cut (e1 i) (code c.args.half) (c.mate.ensures i) c.args.outer) in
    let solid = c.solid_of-solid.ensures ∙ ap (solid_of c.args.arena.now.model) (c.face_of-old_face.ensures ∙ ap (face_of c.args.arena.now.model) c.loop_of.ensures) in
    c.put_face.ensures ∙ (λ i. put_face (e2 i) c.args.face (solid i) c.args.outer) ∙ steps.made_is _ _ _ _ _ _ c.requires
