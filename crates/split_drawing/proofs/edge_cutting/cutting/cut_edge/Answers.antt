use Rattle.split_drawing.proofs.Prelude.{◌∙◌, ap, arith, first_false, after_step, Taken}
use Rattle.split_drawing.proofs.edge_cutting_laws.Halves.{same_cut, second_edge}
use Rattle.undo_journal.proofs.Corners.{same_mev}
use Rattle.split_drawing.proofs.edge_cutting.cutting.cut_edge.Goals as goal

pub overflow_add-edges : goal.overflow_add-edges
overflow_add-edges c = omega (arith, c.requires.edge_left, ap (λ (k : Taken). k.edge) c.requires.taken)

pub overflow_add-vertices : goal.overflow_add-vertices
overflow_add-vertices c = omega (arith, c.requires.vertex_left, ap (λ (k : Taken). k.vertex) c.requires.taken)

pub next-next-requires-clause-there : goal.next-next-requires-clause-there
next-next-requires-clause-there c = second_edge c.arena.result.now.model c.args.draft.now.model c.arena.ensures.model c.args.cut.edge c.minus.result c.minus.ensures c.requires.there

pub step_accepted-requires : goal.step_accepted-requires
step_accepted-requires c = ap (first_false c.args.draft.now.model) (same_mev _ _ _ c.corner.ensures c.corner-2.ensures ∙ same_cut c.arena.result.now.model c.args.draft.now.model c.arena.ensures.model c.args.cut c.args.taken c.requires.taken c.plus-first.result c.minus.result c.next-next.result c.plus-made.result
    c.plus-first.ensures c.minus.ensures c.next-next.ensures.next c.plus-made.ensures) ∙ c.requires.accepted

pub returns-clause-ok : goal.returns-clause-ok
returns-clause-ok c = c.in_ok-step_accepted.ensures.ok ∙ ap (after_step c.args.draft.now) (same_mev _ _ _ c.corner.ensures c.corner-2.ensures ∙ same_cut c.arena.result.now.model c.args.draft.now.model c.arena.ensures.model c.args.cut c.args.taken c.requires.taken c.plus-first.result c.minus.result c.next-next.result c.plus-made.result
    c.plus-first.ensures c.minus.ensures c.next-next.ensures.next c.plus-made.ensures)
