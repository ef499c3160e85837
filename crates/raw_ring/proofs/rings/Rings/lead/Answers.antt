use Rattle.raw_ring.proofs.Copies.{IsLed-spliced}
use Rattle.raw_ring.proofs.rings.Rings.lead.Goals as goal

pub returns : goal.returns
returns c = IsLed-spliced _ _ _ _ _ c.prev-before.ensures.prev c.splice.ensures.exchanged
