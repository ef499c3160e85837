use Rattle.sweeps.proofs.Prelude.{arith, common_steps}
use Rattle.sweeps.proofs.laminas.first_repeated.Goals as goal

pub points-preserved : goal.points-preserved
points-preserved c = grind (arith, common_steps)

pub returns-then-is_among : goal.returns-then-is_among
returns-then-is_among c = grind (arith, common_steps)
