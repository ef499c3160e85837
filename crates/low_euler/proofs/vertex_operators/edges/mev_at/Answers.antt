use Rattle.low_euler.proofs.Prelude.{◌≡◌, ap, sym, subst, ◌∙◌, code, mate, before, Store, Extents, within, put_vertex, LoopsStandApart, IsStanding, IsUnused, with_edge, put_before}
use Rattle.euler_operators.specs.Table as table
use Rattle.low_euler.proofs.steps_laws.Tails.{room-tails}
use Rattle.low_euler.proofs.vertex_operators_laws.CornerSteps as steps
use Rattle.low_euler.proofs.vertex_operators.edges.mev_at.Goals as goal

pub move_tails-requires : goal.move_tails-requires
move_tails-requires c = record {
  sound = c.requires.ready.sound;
  from = (steps.goes _ _ _ _ _ _ c.requires).g_there;
  to = (steps.goes _ _ _ _ _ _ c.requires).k_there;
  one_tail = (steps.goes _ _ _ _ _ _ c.requires).one_tail;
}

pub put_vertex-requires : goal.put_vertex-requires
put_vertex-requires c = record {
  room = ap (λ (t : Store). within c.args.vertex t.room.vertices) c.move_tails.ensures ∙ ap (λ (r : Extents). within c.args.vertex r.vertices) (room-tails _ _ _) ∙ c.requires.room.1.0;
  range = (steps.goes _ _ _ _ _ _ c.requires).point_fits;
}

pub make_edge_after-requires : goal.make_edge_after-requires
make_edge_after-requires c =
    let e1 = c.put_vertex.ensures ∙ ap (λ t. put_vertex t c.args.vertex c.args.point) c.move_tails.ensures in
    let edged = sym (λ i. with_edge (e1 i) (code c.args.half) (c.tail_and_prev-old.ensures.tail i) c.args.vertex) in
    record {
      room = ap (λ (t : Store). table.has t.room.edges c.args.half.edge) e1 ∙ ap (λ (r : Extents). table.has r.edges c.args.half.edge) (room-tails _ _ _) ∙ c.requires.room.0;
      free = ap (λ (t : Store). table.has t.model.edges c.args.half.edge) e1 ∙ steps.edge_free _ _ _ _ _ _ c.requires;
      unused = subst (λ t. IsUnused t (code c.args.half)) (sym e1) (steps.unused _ _ _ _ _ _ c.requires);
      last = subst (λ (t : Store). code c.tail_and_prev-old.result.1 ≡ before t.model (code c.args.from)) edged (steps.before_from _ _ _ _ _ _ c.requires _ (c.tail_and_prev-old.ensures.in_loop (steps.looped _ _ _ _ _ _ c.requires)));
      first = subst (λ (t : Store). IsStanding t.model (code c.args.from)) edged (steps.from_stands _ _ _ _ _ _ c.requires);
      second = subst (λ t. IsStanding (put_before t (code c.args.from) (code c.args.half)).model (code c.args.to)) edged (steps.to_stands _ _ _ _ _ _ c.requires);
      apart = λ _. subst (λ (t : Store). LoopsStandApart t.model) edged (steps.placed_edged _ _ _ _ _ _ c.requires);
    }

pub returns : goal.returns
returns c =
    let e1 = c.put_vertex.ensures ∙ ap (λ t. put_vertex t c.args.vertex c.args.point) c.move_tails.ensures in
    c.make_edge_after.ensures
    ∙ (λ i. put_before (put_before (with_edge (e1 i) (code c.args.half) (c.tail_and_prev-old.ensures.tail i) c.args.vertex) (code c.args.from) (code c.args.half)) (code c.args.to) (mate (code c.args.half)))
    ∙ steps.made_is _ _ _ _ _ _ c.requires
