use Rattle.command_laws.proofs.Solids.{blocks_are_there, laminas_are_there, swept_are_there, sweeps_keep_solids}
use Rattle.command_laws.proofs.solids_are_there.Goals as goal

pub returns : goal.returns
returns c = record { block = blocks_are_there; lamina = laminas_are_there; sweep = swept_are_there; others = sweeps_keep_solids }
