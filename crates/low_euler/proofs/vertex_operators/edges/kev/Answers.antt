use Rattle.low_euler.proofs.Prelude.{ap, sym, subst, ◌∙◌, code, mate, has_half, tail, arc, HasHalf, Store, take_vertex, IsStanding, take_out, kill_edge, with_tails_at}
use Rattle.low_euler.proofs.vertex_operators_laws.KevSteps as steps
use Rattle.low_euler.proofs.vertex_operators.edges.kev.Goals as goal

pub tail-kept-requires : goal.tail-kept-requires
tail-kept-requires c = (steps.goes _ _ c.requires).h_there

pub tail-killed-requires : goal.tail-killed-requires
tail-killed-requires c = ap (has_half c.args.arena.now.model) c.mate-mate.ensures ∙ steps.mate_there _ _ c.requires

pub next-following-requires : goal.next-following-requires
next-following-requires c = (steps.goes _ _ c.requires).h_there

pub move_tails-requires : goal.move_tails-requires
move_tails-requires c =
    let following = c.next-following.ensures.in_loop (steps.half_looped _ _ c.requires) in
    record {
      sound = c.requires.ready.sound;
      from = subst (HasHalf c.args.arena.now.model) (sym following) (steps.following_there _ _ c.requires);
      to = subst (HasHalf c.args.arena.now.model) (sym c.mate-mate.ensures) (steps.mate_there _ _ c.requires);
      one_tail = ap (tail c.args.arena.now.model) c.mate-mate.ensures ∙ steps.one_tail _ _ c.requires ∙ sym (ap (tail c.args.arena.now.model) following);
    }

pub kill_edge-requires : goal.kill_edge-requires
kill_edge-requires c =
    let following = c.next-following.ensures.in_loop (steps.half_looped _ _ c.requires) in
    let e1 = sym (c.move_tails.ensures ∙ (λ i. with_tails_at c.args.arena.now (arc c.args.arena.now.model (following i) (c.mate-mate.ensures i)) (c.tail-kept.ensures i))) in
    record {
      mate = subst (λ (t : Store). IsStanding t.model (mate (code c.args.half))) e1 (steps.mate_stands _ _ c.requires);
      half = subst (λ t. IsStanding (take_out t (mate (code c.args.half))).model (code c.args.half)) e1 (steps.half_stands _ _ c.requires);
    }

pub take_vertex-requires : goal.take_vertex-requires
take_vertex-requires c =
    let following = c.next-following.ensures.in_loop (steps.half_looped _ _ c.requires) in
    let e1 = c.move_tails.ensures ∙ (λ i. with_tails_at c.args.arena.now (arc c.args.arena.now.model (following i) (c.mate-mate.ensures i)) (c.tail-kept.ensures i)) in
    let e2 = c.kill_edge.ensures ∙ ap (λ t. kill_edge t (code c.args.half)) e1 in
    steps.vertex_there _ _ c.requires _ _ (c.tail-killed.ensures ∙ ap (tail c.args.arena.now.model) c.mate-mate.ensures) e2

pub returns : goal.returns
returns c =
    let following = c.next-following.ensures.in_loop (steps.half_looped _ _ c.requires) in
    let e1 = c.move_tails.ensures ∙ (λ i. with_tails_at c.args.arena.now (arc c.args.arena.now.model (following i) (c.mate-mate.ensures i)) (c.tail-kept.ensures i)) in
    let e2 = c.kill_edge.ensures ∙ ap (λ t. kill_edge t (code c.args.half)) e1 in
    let killed = c.tail-killed.ensures ∙ ap (tail c.args.arena.now.model) c.mate-mate.ensures in
    c.take_vertex.ensures ∙ (λ i. take_vertex (e2 i) (killed i)) ∙ steps.made_is _ _ c.requires
