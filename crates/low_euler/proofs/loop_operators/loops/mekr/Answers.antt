use Rattle.low_euler.proofs.Prelude.{sym, subst, ◌∙◌, code, Store, join, take_loop, CanTake, with_edge, put_at}
use Rattle.low_euler.proofs.loop_operators_laws.MekrSteps as steps
use Rattle.low_euler.proofs.loop_operators.loops.mekr.Goals as goal

pub tail_at-start-requires : goal.tail_at-start-requires
tail_at-start-requires c = steps.first_there _ _ _ _ c.requires

pub tail_at-end-requires : goal.tail_at-end-requires
tail_at-end-requires c = steps.second_there _ _ _ _ c.requires

pub loop_at-ring-requires : goal.loop_at-ring-requires
loop_at-ring-requires c = steps.second_there _ _ _ _ c.requires

pub make_edge-requires : goal.make_edge-requires
make_edge-requires c =
    let edged = sym (λ i. with_edge c.args.arena.now (code c.args.half) (c.tail_at-start.ensures i) (c.tail_at-end.ensures i)) in
    record {
      room = c.requires.room.0;
      free = steps.edge_free _ _ _ _ c.requires;
      unused = steps.unused _ _ _ _ c.requires;
      first = subst (λ (t : Store). CanTake t.model c.args.first) edged (steps.first_takes _ _ _ _ c.requires);
      second = subst (λ t. CanTake (put_at t c.args.first (code c.args.half)).model c.args.second) edged (steps.second_takes _ _ _ _ c.requires);
    }

pub join-requires : goal.join-requires
join-requires c =
    let e1 = steps.was_second _ _ _ _ c.requires _ _ _ c.tail_at-start.ensures c.tail_at-end.ensures c.make_edge.ensures in
    steps.join_asks _ _ _ _ c.requires _ _ e1 c.mate.ensures

pub take_loop-requires : goal.take_loop-requires
take_loop-requires c =
    let e1 = steps.was_second _ _ _ _ c.requires _ _ _ c.tail_at-start.ensures c.tail_at-end.ensures c.make_edge.ensures in
    let e2 = c.join.ensures ∙ (λ i. join (e1 i) (code c.args.half) (c.mate.ensures i)) in
    let gone = steps.ring_bare _ _ _ _ c.requires _ _ c.loop_at-ring.ensures e2 in
    record { there = gone.0; bare = gone.1 }

pub returns : goal.returns
returns c =
    let e1 = steps.was_second _ _ _ _ c.requires _ _ _ c.tail_at-start.ensures c.tail_at-end.ensures c.make_edge.ensures in
    let e2 = c.join.ensures ∙ (λ i. join (e1 i) (code c.args.half) (c.mate.ensures i)) in
    c.take_loop.ensures ∙ (λ i. take_loop (e2 i) (c.loop_at-ring.ensures i)) ∙ steps.made_is _ _ _ _ c.requires
