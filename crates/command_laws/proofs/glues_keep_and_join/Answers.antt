use Rattle.command_laws.proofs.Solids.{glues_join_solids}
use Rattle.command_laws.proofs.glues_keep_and_join.Goals as goal

pub returns : goal.returns
returns c = record { solids = glues_join_solids }
