use Rattle.plane_split.proofs.Prelude.{◌≡◌, ◌≤◌, ◌-◌, length, map, code, taken_of, strip_ops, after_steps, IsFurther}
use Rattle.plane_split.proofs.solid_opening.strips.cut_strips.Given as goal

abbrev pub invariant-strips : goal.invariant-strips
invariant-strips l = record {
  inside : l.i ≤ length l.halves;
  steps : l.draft ≡ after_steps l.fn.draft (strip_ops l.fn.draft.model l.s (taken_of l.from) (map code l.halves) l.i);
  further : IsFurther l.fn.draft l.draft;
}

abbrev pub decreases-strips : goal.decreases-strips
decreases-strips l = length l.halves - l.i
