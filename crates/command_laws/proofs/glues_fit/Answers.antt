use Rattle.command_laws.proofs.Accepted.{glues_fit}
use Rattle.command_laws.proofs.glues_fit.Goals as goal

pub returns : goal.returns
returns c = glues_fit
