use Rattle.split_drawing.proofs.Prelude.{◌≡◌, length, taken_in, growing, taken_of, crossing_ops, after_steps, IsFurther}
use Rattle.split_drawing.proofs.edge_cutting_laws.Remaining.{Cutting, AreAt, edges_in}
use Rattle.split_drawing_laws.specs.crossings.CrossingOps.{ops_from}
use Rattle.split_drawing.proofs.edge_cutting.cutting.cut_edges.Given as goal

abbrev pub invariant-edges : goal.invariant-edges
invariant-edges l = record {
  cutting : Cutting l.fn.draft.model l.plane l.draft.model (edges_in l.rest);
  points : AreAt l.fn.draft.model l.plane l.rest;
  counted : taken_of l.taken ≡ taken_in l.draft.model;
  steps : after_steps l.draft (ops_from l.plane (growing l.draft.model) (edges_in l.rest)) ≡ after_steps l.fn.draft (crossing_ops l.fn.draft.model l.s l.plane);
  further : IsFurther l.fn.draft l.draft;
}

abbrev pub decreases-edges : goal.decreases-edges
decreases-edges l = length l.rest
