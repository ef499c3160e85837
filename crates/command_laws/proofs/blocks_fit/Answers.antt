use Rattle.command_laws.proofs.Accepted.{blocks_fit}
use Rattle.command_laws.proofs.blocks_fit.Goals as goal

pub returns : goal.returns
returns c = blocks_fit
