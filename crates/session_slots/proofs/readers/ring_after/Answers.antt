use Rattle.std.proofs.Common.{◌∙◌, true≢false}
use Rattle.session_slots.proofs.readers.ring_after.Goals as goal

pub returns : goal.returns
returns c = (λ _. c.ring_after.ensures, λ no. absurd (true≢false (c.if-not-has.ensures.used ∙ no)))
