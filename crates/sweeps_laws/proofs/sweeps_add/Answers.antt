use Rattle.sweeps_laws.proofs.Whole.{sweep_adds, sweep_keeps_others}
use Rattle.sweeps_laws.proofs.sweeps_add.Goals as goal

pub returns : goal.returns
returns c = record { adds = sweep_adds; others = sweep_keeps_others }
