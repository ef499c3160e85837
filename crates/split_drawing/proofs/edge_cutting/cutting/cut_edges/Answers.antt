use Rattle.split_drawing.proofs.Prelude.{◌∙◌, [], ◌∷◌, refl, ap, sym, subst, DraftJournal, after_step, after_steps, first_false, taken_in, growing, crossing_edges, cut_edge, crossings_made, parts, further_none, further_on, steps_make}
use Rattle.split_drawing_laws.specs.crossings.CrossingOps.{ops_from}
use Rattle.split_drawing.proofs.StepsLeft.{others_lead, none_left}
use Rattle.split_drawing.proofs.edge_cutting_laws.Remaining.{Cutting, AreAt, edges_in, no_cut, all_at, edges_at, begins, crossings_are, ops_left, opened, opened_at, next_goes, next_crosses, next_op, next_taken, next_counted, edge_left, vertex_left}
use Rattle.split_drawing.proofs.edge_cutting.cutting.cut_edges.Goals as goal

pub edges-init : goal.edges-init
edges-init c =
    let M = c.args.draft.now.model in let p = c.args.plane.now in let es = crossing_edges M p c.args.s in
    record {
      cutting = subst (λ cs. Cutting M p M (edges_in cs)) (sym c.requires.edges) (subst (Cutting M p M) (sym (edges_at M p es)) (begins M c.args.s p c.requires.sound c.requires.begins));
      points = subst (AreAt M p) (sym c.requires.edges) (all_at M p es);
      counted = c.counters_of-taken.ensures.is ∙ ap taken_in c.arena.ensures.model;
      steps = ap (λ xs. after_steps c.args.draft.now (ops_from p (growing M) xs)) (ap edges_in c.requires.edges ∙ edges_at M p es) ∙ ap (after_steps c.args.draft.now) (crossings_are M c.args.s p);
      further = further_none _;
    }

pub cut_edge-requires-clause-there : goal.cut_edge-requires-clause-there
cut_edge-requires-clause-there c = (next_crosses _ _ _ _ _ (opened c.args.draft.now.model c.args.plane.now c.edges.draft.model c.edges.rest.now _ c.in-len1-up.len_at_least c.edges.invariant.cutting)).there

pub cut_edge-requires-clause-edge_left : goal.cut_edge-requires-clause-edge_left
cut_edge-requires-clause-edge_left c = edge_left _ _ _ _ _ (opened c.args.draft.now.model c.args.plane.now c.edges.draft.model c.edges.rest.now no_cut c.in-len1-up.len_at_least c.edges.invariant.cutting)

pub cut_edge-requires-clause-vertex_left : goal.cut_edge-requires-clause-vertex_left
cut_edge-requires-clause-vertex_left c = vertex_left _ _ _ _ _ (opened c.args.draft.now.model c.args.plane.now c.edges.draft.model c.edges.rest.now no_cut c.in-len1-up.len_at_least c.edges.invariant.cutting)

pub cut_edge-requires-clause-accepted : goal.cut_edge-requires-clause-accepted
cut_edge-requires-clause-accepted c =
    let next = (opened c.args.draft.now.model c.args.plane.now c.edges.draft.model c.edges.rest.now _ c.in-len1-up.len_at_least c.edges.invariant.cutting) in
    ap (first_false c.edges.draft.model) (next_op _ _ _ _ _ next _ (opened_at c.args.draft.now.model c.args.plane.now c.edges.rest.now _ c.in-len1-up.len_at_least c.edges.invariant.points).0) ∙ next_goes _ _ _ _ _ next

pub edges-preserved : goal.edges-preserved
edges-preserved c =
    let next = (opened c.args.draft.now.model c.args.plane.now c.edges.draft.model c.edges.rest.now _ c.in-len1-up.len_at_least c.edges.invariant.cutting) in
    let at = (opened_at c.args.draft.now.model c.args.plane.now c.edges.rest.now _ c.in-len1-up.len_at_least c.edges.invariant.points) in
    let step = c.in_ok-taken.ensures.ok ∙ ap (after_step c.edges.draft) (next_op _ _ _ _ _ next _ at.0) in
    let model = ap (λ (d : DraftJournal). d.model) step in
    record {
      cutting = next_taken _ _ _ _ _ next c.cut_edge.new.draft.model model;
      points = at.1;
      steps = others_lead c.edges.draft c.cut_edge.new.draft (cut_edge c.args.plane.now (growing c.edges.draft.model) _ ∷ []) _ step
          ∙ ap (after_steps c.edges.draft) (ops_left _ _ _ _ _ next c.cut_edge.new.draft.model model (edges_in c.edges.rest.now) (ap edges_in (parts c.edges.rest.now _ c.in-len1-up.len_at_least)))
          ∙ c.edges.invariant.steps;
      counted = next_counted _ _ _ _ _ next c.cut_edge.new.draft.model model c.edges.taken c.edges.invariant.counted _ c.in_ok-taken.ensures.counted;
      further = further_on _ _ _ c.edges.invariant.further c.in_ok-taken.ensures.further;
    }

pub returns-clause-steps : goal.returns-clause-steps
returns-clause-steps c = none_left c.edges.rest.now (λ cs. ops_from c.args.plane.now (growing c.edges.draft.model) (edges_in cs)) c.args.draft.now c.edges.draft _ c.in_default.len_below refl c.edges.invariant.steps

pub returns-clause-model : goal.returns-clause-model
returns-clause-model c = steps_make _ _ _ (returns-clause-steps c) ∙ crossings_made c.args.draft.now.model c.args.s c.args.plane.now c.requires.begins.0 c.requires.sound c.requires.begins.1
