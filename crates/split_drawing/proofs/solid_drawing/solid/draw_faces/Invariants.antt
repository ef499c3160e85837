use Rattle.split_drawing.proofs.Prelude.{◌≡◌, ◌≤◌, [], map, length, faces_drawn, drawing_of, codes, how_many_pairs, paired, AreSides, CanDrawFaces, put_aside, ops_from, after_steps, IsFurther}
use Rattle.split_drawing.proofs.solid_drawing.solid.draw_faces.Given as goal

abbrev pub invariant-faces : goal.invariant-faces
invariant-faces l = record {
  sides : AreSides l.draft.model l.plane l.sides;
  enough : how_many_pairs l.rest ≤ length l.later;
  can : CanDrawFaces (paired l.rest (map codes l.later)) (drawing_of l.progress l.draft.model []);
  made : put_aside (faces_drawn l.plane (drawing_of l.progress l.draft.model []) (paired l.rest (map codes l.later))) ≡ put_aside (faces_drawn l.plane (drawing_of l.fn.from l.fn.draft.model []) (paired l.faces (map codes l.fn.pairs)));
  steps : after_steps l.draft (ops_from l.plane (drawing_of l.progress l.draft.model []) (paired l.rest (map codes l.later))) ≡ after_steps l.fn.draft (ops_from l.plane (drawing_of l.fn.from l.fn.draft.model []) (paired l.faces (map codes l.fn.pairs)));
  further : IsFurther l.fn.draft l.draft;
}

abbrev pub decreases-faces : goal.decreases-faces
decreases-faces l = length l.rest
