use Rattle.sweeps.proofs.Prelude.{length, taken_of, IsFurther}
use Rattle.sweeps.proofs.RaisedLoops.{Sweeping}
use Rattle.sweeps.proofs.raising.raise.Given as goal

abbrev pub invariant-rings : goal.invariant-rings
invariant-rings l = record {
  sweeping : Sweeping l.fn.draft l.draft (taken_of l.taken) l.f l.shift l.rest;
  further : IsFurther l.fn.draft l.draft;
}

abbrev pub decreases-rings : goal.decreases-rings
decreases-rings l = length l.rest
