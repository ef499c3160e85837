use Rattle.script_laws.proofs.Measured.{sweeps_measure}
use Rattle.script_laws.proofs.sweeps_measure.Goals as goal

pub returns : goal.returns
returns c =
    let lines = c.lines_are_calls.ensures in
    sweeps_measure lines.lead lines.consistent c.sweep_measures.ensures.solid c.sweep_measures.ensures.others c.solids_are_there.ensures.sweep c.solids_are_there.ensures.others
