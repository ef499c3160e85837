use Rattle.plane_split.proofs.Prelude.{◌≡◌, length, AreAccepted, caps_of, holes_ops, after_steps, IsFurther}
use Rattle.plane_split.proofs.solid_opening.parting.close_holes.Given as goal

abbrev pub invariant-caps : goal.invariant-caps
invariant-caps l = record {
  accepted : AreAccepted l.draft.model (holes_ops (caps_of l.outer) l.rest);
  steps : after_steps l.draft (holes_ops (caps_of l.outer) l.rest) ≡ after_steps l.fn.draft (holes_ops (caps_of l.outer) l.caps);
  further : IsFurther l.fn.draft l.draft;
}

abbrev pub decreases-caps : goal.decreases-caps
decreases-caps l = length l.rest
