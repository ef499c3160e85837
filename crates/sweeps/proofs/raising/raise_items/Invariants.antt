use Rattle.sweeps.proofs.Prelude.{◌≡◌, ◌<◌, ◌-◌, length, map, code, rounds, taken_of, IsFurther, after_steps}
use Rattle.sweeps.proofs.raising.raise_items.Given as goal

abbrev pub invariant-items : goal.invariant-items
invariant-items l = record {
  inside : l.done < length (map code l.items);
  steps : l.draft ≡ after_steps l.fn.draft (rounds l.fn.draft.model (taken_of l.taken) l.shift (map code l.items) l.done);
  further : IsFurther l.fn.draft l.draft;
}

abbrev pub decreases-items : goal.decreases-items
decreases-items l = length (map code l.items) - l.done
