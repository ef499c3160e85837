use Rattle.session_slots.proofs.Prelude.{arith, common_steps}
use Rattle.session_slots.proofs.arguments.polygon.Goals as goal

pub places-preserved : goal.places-preserved
places-preserved c = grind (arith, common_steps)
