use Rattle.raw_ring.proofs.Copies.{Begun-empty}
use Rattle.raw_ring.proofs.rings.Rings.copy_codes.Goals as goal

pub loop-code-init : goal.loop-code-init
loop-code-init c = Begun-empty _ _ c.new-copy.ensures
