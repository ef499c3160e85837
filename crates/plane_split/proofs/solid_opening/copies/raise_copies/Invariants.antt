use Rattle.plane_split.proofs.Prelude.{◌≡◌, ◌≤◌, ◌-◌, length, map, code, taken_of, copy_ops, after_steps, IsFurther}
use Rattle.plane_split.proofs.solid_opening.copies.raise_copies.Given as goal

abbrev pub invariant-copies : goal.invariant-copies
invariant-copies l = record {
  inside : l.i ≤ length l.halves;
  steps : l.draft ≡ after_steps l.fn.draft (copy_ops l.fn.draft.model (taken_of l.from) (map code l.halves) l.i);
  further : IsFurther l.fn.draft l.draft;
}

abbrev pub decreases-copies : goal.decreases-copies
decreases-copies l = length l.halves - l.i
