use Rattle.solid_measure.proofs.Prelude.{◌≡◌, refl, ap, ◌∙◌, Content, HalfEdge, head_or, Model, LoopContent, lone, cycle, content, items_of, point_of, moved, origin, Tells, filled, start, area, first_vertex}
use Rattle.euler_operators.specs.Table as table
use Rattle.solid_measure.proofs.faces.outer_frame.Goals as goal

pub content-requires-clause-filled : goal.content-requires-clause-filled
content-requires-clause-filled c =
    let M = c.args.arena.now.model in filled M c.requires.ready.sound c.outer-outer.result (ap (table.has M.loops) c.outer-outer.ensures ∙ (c.requires.ready.sound.outers_there c.args.f c.requires.there).0)

-- a ring's first vertex is that at which its least half-edge starts
ring_first : (M : Model) (c : LoopContent) (first : HalfEdge) → Tells c (Content.Ring first) → start M (head_or 0 (items_of c)) ≡ point_of M (first_vertex M c)
ring_first M (lone v) first t = absurd t
ring_first M (cycle hs) first t = refl

pub returns-in-Some-clause-frame : goal.returns-in-Some-clause-frame
returns-in-Some-clause-frame c =
    let M = c.args.arena.now.model in record {
      summed = c.widened.ensures ∙ c.in-Some.ensures.walked.sum ∙ ap (λ l. moved origin (area M (items_of (content M l)))) c.outer-outer.ensures;
      anchored = c.start_of_code.ensures.point ∙ ap (start M) c.in-Some.ensures.walked.least ∙ ring_first M (content M c.outer-outer.result) c.in-Ring.first c.in-Ring.ensures
          ∙ ap (λ l. point_of M (first_vertex M (content M l))) c.outer-outer.ensures;
      range = c.start_of_code.ensures.range;
    }
