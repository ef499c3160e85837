use Rattle.solid_measure.proofs.Prelude.{◌∙◌, ap, sym, arith, list_all, is_on, has, content, point_of, rings_of, vertices_on}
use Rattle.solid_measure.proofs.FlatFaces.{all_parts, none_fails, first_fails, first_passes}
use Rattle.solid_measure.proofs.faces.short_face_lies_on.Goals as goal

pub short_loop_lies_on-requires-clause-there : goal.short_loop_lies_on-requires-clause-there
short_loop_lies_on-requires-clause-there c =
    let M = c.args.arena.now.model in ap (has M.loops) c.outer.ensures ∙ (c.requires.ready.sound.outers_there c.args.f c.requires.there).0

pub returns-then-not-short_loop_lies_on : goal.returns-then-not-short_loop_lies_on
returns-then-not-short_loop_lies_on c =
    let M = c.args.arena.now.model in let p = c.args.plane in
    first_fails _ _ (c.short_loop_lies_on.ensures ∙ ap (λ l. list_all (λ v. is_on p (point_of M v)) (vertices_on M (content M l))) c.outer.ensures) c.if-not-short_loop_lies_on.true
    ∙ all_parts (λ v. is_on p (point_of M v)) M c.args.f

pub returns-then-ring_count-gt0 : goal.returns-then-ring_count-gt0
returns-then-ring_count-gt0 c =
    let M = c.args.arena.now.model in let p = c.args.plane in
    c.rings_lie_on.ensures
    ∙ first_passes _ _ (c.short_loop_lies_on.ensures ∙ ap (λ l. list_all (λ v. is_on p (point_of M v)) (vertices_on M (content M l))) c.outer.ensures) c.if-not-short_loop_lies_on.false
    ∙ all_parts (λ v. is_on p (point_of M v)) M c.args.f

pub returns : goal.returns
returns c =
    let M = c.args.arena.now.model in let p = c.args.plane in
    sym (none_fails (λ l. list_all (λ v. is_on p (point_of M v)) (vertices_on M (content M l))) (rings_of M c.args.f) (omega (arith, sym c.ring_count.ensures, c.if-ring_count-gt0.false)))
    ∙ first_passes _ _ (c.short_loop_lies_on.ensures ∙ ap (λ l. list_all (λ v. is_on p (point_of M v)) (vertices_on M (content M l))) c.outer.ensures) c.if-not-short_loop_lies_on.false
    ∙ all_parts (λ v. is_on p (point_of M v)) M c.args.f
