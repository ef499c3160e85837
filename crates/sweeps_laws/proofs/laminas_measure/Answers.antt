use Rattle.sweeps_laws.proofs.Block.{lamina_measures, flat_laminas_measure_nothing, lamina_keeps_others}
use Rattle.sweeps_laws.proofs.laminas_measure.Goals as goal

pub returns : goal.returns
returns c = record { difference = lamina_measures; flat = flat_laminas_measure_nothing; others = lamina_keeps_others }
