use Rattle.low_euler.proofs.Prelude.{ap, sym, subst, ◌∙◌, code, mate, Lone, Store, fill, IsStanding, IsUnused, CanTake, with_edge, put_before}
use Rattle.euler_operators.specs.Table as table
use Rattle.low_euler.proofs.vertex_operators_laws.LoneSteps as steps
use Rattle.low_euler.proofs.vertex_operators.edges.mev_lone.Goals as goal

pub lone_vertex-old-requires : goal.lone_vertex-old-requires
lone_vertex-old-requires c = record { there = (steps.goes _ _ _ _ _ c.requires).loop_there; lone = steps.is_lone_there _ _ _ _ _ c.requires }

pub make_edge-requires : goal.make_edge-requires
make_edge-requires c =
    let edged = sym (λ i. with_edge (c.put_vertex.ensures i) (code c.args.half) (c.lone_vertex-old.ensures i) c.args.vertex) in
    record {
      room = ap (λ (t : Store). table.has t.room.edges c.args.half.edge) c.put_vertex.ensures ∙ c.requires.room.0;
      free = ap (λ (t : Store). table.has t.model.edges c.args.half.edge) c.put_vertex.ensures ∙ steps.edge_free _ _ _ _ _ c.requires;
      unused = subst (λ t. IsUnused t (code c.args.half)) (sym c.put_vertex.ensures) (steps.unused _ _ _ _ _ c.requires);
      first = subst (λ (t : Store). CanTake t.model (Lone c.args.l)) edged (steps.lone_takes _ _ _ _ _ c.requires);
      second = subst (λ t. IsStanding (fill t c.args.l (code c.args.half)).model (code c.args.half)) edged (steps.half_stands _ _ _ _ _ c.requires);
    }

pub returns : goal.returns
returns c =
    c.make_edge.ensures
    ∙ (λ i. put_before (fill (with_edge (c.put_vertex.ensures i) (code c.args.half) (c.lone_vertex-old.ensures i) c.args.vertex) c.args.l (code c.args.half)) (code c.args.half) (mate (code c.args.half)))
    ∙ steps.made_is _ _ _ _ _ c.requires
