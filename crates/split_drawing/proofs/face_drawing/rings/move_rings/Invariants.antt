use Rattle.split_drawing.proofs.Prelude.{◌≡◌, length, AreAccepted, ring_ops, after_steps, IsFurther}
use Rattle.split_drawing.proofs.face_drawing.rings.move_rings.Given as goal

abbrev pub invariant-rings : goal.invariant-rings
invariant-rings l = record {
  accepted : AreAccepted l.draft.model (ring_ops l.rest l.to);
  steps : after_steps l.draft (ring_ops l.rest l.to) ≡ after_steps l.fn.draft (ring_ops l.rings l.to);
  further : IsFurther l.fn.draft l.draft;
}

abbrev pub decreases-rings : goal.decreases-rings
decreases-rings l = length l.rest
