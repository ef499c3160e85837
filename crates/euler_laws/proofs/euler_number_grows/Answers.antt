use Rattle.euler_laws.proofs.Sizes.{loops_are}
use Rattle.euler_laws.proofs.Growth.{grows}
use Rattle.euler_laws.proofs.euler_number_grows.Goals as goal

pub returns : goal.returns
returns c = record { loops = loops_are; grows = grows }
