use Rattle.split_drawing.proofs.Prelude.{◌≡◌, length, map, fold, draw_next, codes, drawing_of, CanDraw, draw_ops, after_steps, IsFurther}
use Rattle.split_drawing.proofs.face_drawing.drawing.draw_pairs.Given as goal

abbrev pub invariant-pairs : goal.invariant-pairs
invariant-pairs l = record {
  can : CanDraw l.f (drawing_of l.progress l.draft.model (map codes l.pairs)) (map codes l.rest);
  made : fold (draw_next l.f) (drawing_of l.progress l.draft.model (map codes l.pairs)) (map codes l.rest) ≡ fold (draw_next l.f) (drawing_of l.fn.from l.fn.draft.model (map codes l.pairs)) (map codes l.pairs);
  steps : after_steps l.draft (draw_ops l.f (drawing_of l.progress l.draft.model (map codes l.pairs)) (map codes l.rest)) ≡ after_steps l.fn.draft (draw_ops l.f (drawing_of l.fn.from l.fn.draft.model (map codes l.pairs)) (map codes l.pairs));
  further : IsFurther l.fn.draft l.draft;
}

abbrev pub decreases-pairs : goal.decreases-pairs
decreases-pairs l = length l.rest
