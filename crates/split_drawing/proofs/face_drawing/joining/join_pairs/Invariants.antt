use Rattle.split_drawing.proofs.Prelude.{◌≡◌, [], length, map, fold, join_next, codes, drawing_of, CanJoin, join_ops, after_steps, IsFurther}
use Rattle.split_drawing.proofs.face_drawing.joining.join_pairs.Given as goal

abbrev pub invariant-pairs : goal.invariant-pairs
invariant-pairs l = record {
  can : CanJoin l.f (drawing_of l.progress l.draft.model (map codes l.left.items)) (map codes l.rest);
  made : fold join_next (drawing_of l.progress l.draft.model (map codes l.left.items)) (map codes l.rest) ≡ fold join_next (drawing_of l.fn.from l.fn.draft.model []) (map codes l.pairs);
  steps : after_steps l.draft (join_ops (drawing_of l.progress l.draft.model (map codes l.left.items)) (map codes l.rest)) ≡ after_steps l.fn.draft (join_ops (drawing_of l.fn.from l.fn.draft.model []) (map codes l.pairs));
  further : IsFurther l.fn.draft l.draft;
}

abbrev pub decreases-pairs : goal.decreases-pairs
decreases-pairs l = length l.rest
