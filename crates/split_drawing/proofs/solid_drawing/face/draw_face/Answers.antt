use Rattle.split_drawing.proofs.Prelude.{◌≡◌, [], map, sym, ap, ◌∙◌, subst, IfOk, OnOk, Model, Has, drawn_between, after_steps, steps_after, codes, drawing_of, CanDrawFace, put_aside, face_ops}
use Rattle.split_drawing.proofs.solid_drawing_laws.OneFace.{can_join, then_there, then_draw, last_noted, with_none, steps_with_none, lone_pair}
use Rattle.split_drawing.proofs.solid_drawing.face.draw_face.Goals as goal

pub join_pairs-requires : goal.join_pairs-requires
join_pairs-requires c = can_join c.args.plane c.args.f (map codes c.args.pairs.now) (drawing_of c.args.from c.args.draft.now.model []) c.requires.can

pub ring_free-looked_at-requires : goal.ring_free-looked_at-requires
ring_free-looked_at-requires c = subst (λ (X : Model). Has X.faces c.args.f) (sym c.arena.ensures.model)
    (then_there c.args.plane c.args.f c.args.pairs.now c.args.from c.args.draft.now.model c.requires.can c.in_ok-joined.joined c.join_pairs.new.draft.model c.join_pairs.new.left.items c.in_ok-joined.ensures.joined)

pub draw_pairs-requires : goal.draw_pairs-requires
draw_pairs-requires c = then_draw c.args.plane c.args.f c.args.pairs.now c.args.from c.args.draft.now.model c.requires.can c.in_ok-joined.joined c.join_pairs.new.draft.model c.join_pairs.new.left.items c.in_ok-joined.ensures.joined
    c.arena.result.now.model c.arena.ensures.model c.ring_free-looked_at.result c.ring_free-looked_at.ensures c.as_slice.result.now c.as_slice.ensures.value

pub returns-clause-drawn : goal.returns-clause-drawn
returns-clause-drawn c = with_none c.args.plane c.args.f c.args.pairs.now c.args.from c.args.draft.now.model c.requires.can c.in_ok-joined.joined c.join_pairs.new.draft.model c.join_pairs.new.left.items c.in_ok-joined.ensures.joined
    c.arena.result.now.model c.arena.ensures.model c.ring_free-looked_at.result c.ring_free-looked_at.ensures c.as_slice.result.now c.as_slice.ensures.value
    c.in_ok-drawn.drawn c.draw_pairs.new.draft.model c.in_ok-drawn.ensures.drawn c.if-pairs-eq1.false

pub returns-clause-sides : goal.returns-clause-sides
returns-clause-sides c = last_noted c.args.plane c.args.f c.args.pairs.now c.args.from c.args.draft.now.model c.requires.can c.in_ok-joined.joined c.join_pairs.new.draft.model c.join_pairs.new.left.items c.in_ok-joined.ensures.joined
    c.arena.result.now.model c.arena.ensures.model c.ring_free-looked_at.result c.ring_free-looked_at.ensures c.as_slice.result.now c.as_slice.ensures.value
    c.in_ok-drawn.drawn c.draw_pairs.new.draft.model c.in_ok-drawn.ensures.drawn c.args.sides.now.noted c.requires.sides

pub returns-clause-steps : goal.returns-clause-steps
returns-clause-steps c =
    steps_after _ _ _ _ _ c.in_ok-joined.ensures.steps c.in_ok-drawn.ensures.steps
    ∙ ap (after_steps c.args.draft.now) (steps_with_none c.args.plane c.args.f c.args.pairs.now c.args.from c.args.draft.now.model c.requires.can c.in_ok-joined.joined c.join_pairs.new.draft.model c.join_pairs.new.left.items c.in_ok-joined.ensures.joined
    c.arena.result.now.model c.arena.ensures.model c.ring_free-looked_at.result c.ring_free-looked_at.ensures c.as_slice.result.now c.as_slice.ensures.value
    c.in_ok-drawn.drawn c.draw_pairs.new.draft.model c.in_ok-drawn.ensures.drawn c.if-pairs-eq1.false)

pub draw_alone-requires-clause-can : goal.draw_alone-requires-clause-can
draw_alone-requires-clause-can c = subst (λ qs. CanDrawFace c.args.plane c.args.f qs (drawing_of c.args.from c.args.draft.now.model [])) (sym (lone_pair c.args.pairs.now _ c.if-pairs-eq1.true)) c.requires.can

pub returns-then-pairs-eq1-clause-drawn : goal.returns-then-pairs-eq1-clause-drawn
returns-then-pairs-eq1-clause-drawn c =
    subst (λ qs. IfOk c.draw_alone.result (λ drawn. drawing_of drawn c.draw_alone.new.draft.model [] ≡ put_aside (drawn_between c.args.plane c.args.f qs (drawing_of c.args.from c.args.draft.now.model []))))
    (lone_pair c.args.pairs.now _ c.if-pairs-eq1.true) c.draw_alone.ensures.drawn

pub returns-then-pairs-eq1-clause-steps : goal.returns-then-pairs-eq1-clause-steps
returns-then-pairs-eq1-clause-steps c =
    subst (λ qs. OnOk c.draw_alone.result (c.draw_alone.new.draft ≡ after_steps c.args.draft.now (face_ops c.args.plane c.args.f qs (drawing_of c.args.from c.args.draft.now.model []))))
    (lone_pair c.args.pairs.now _ c.if-pairs-eq1.true) c.draw_alone.ensures.steps
