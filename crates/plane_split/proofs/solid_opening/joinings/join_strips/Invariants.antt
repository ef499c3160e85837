use Rattle.plane_split.proofs.Prelude.{◌≡◌, ◌+◌, ◌-◌, ◌*◌, ◌≤◌, AreAccepted, taken_of, joinings, after_steps, IsFurther}
use Rattle.plane_split.proofs.solid_opening_laws.Killed.{kills}
use Rattle.plane_split.proofs.solid_opening.joinings.join_strips.Given as goal

abbrev pub invariant-risers : goal.invariant-risers
invariant-risers l = record {
  inside : l.riser ≤ l.from.edges + 2 * l.count;
  accepted : AreAccepted l.draft.model (kills l.riser (l.from.edges + 2 * l.count));
  steps : after_steps l.draft (kills l.riser (l.from.edges + 2 * l.count)) ≡ after_steps l.fn.draft (joinings (taken_of l.from) l.count (l.count - 1));
  further : IsFurther l.fn.draft l.draft;
}

abbrev pub decreases-risers : goal.decreases-risers
decreases-risers l = l.from.edges + 2 * l.count - l.riser
