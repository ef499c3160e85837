use Rattle.gluing.proofs.Prelude.{length, code, cycle_of, IsFurther}
use Rattle.gluing.proofs.Joined.{Halfway}
use Rattle.gluing.proofs.joining.take_steps.Given as goal

abbrev pub invariant-items : goal.invariant-items
invariant-items l = record {
  halfway : Halfway l.fn.draft l.draft l.f l.other (code l.item);
  further : IsFurther l.fn.draft l.draft;
}

abbrev pub decreases-items : goal.decreases-items
decreases-items l = length (cycle_of l.draft.model (code l.item))
