use Rattle.script_laws.proofs.Measured.{glues_measure}
use Rattle.script_laws.proofs.glues_measure.Goals as goal

pub returns : goal.returns
returns c = let lines = c.lines_are_calls.ensures in glues_measure lines.lead lines.consistent c.glue_measures.ensures.solid c.glue_measures.ensures.others c.glues_keep_and_join.ensures.solids
