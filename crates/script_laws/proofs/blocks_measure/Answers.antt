use Rattle.script_laws.proofs.Measured.{blocks_measure}
use Rattle.script_laws.proofs.blocks_measure.Goals as goal

pub returns : goal.returns
returns c = let lines = c.lines_are_calls.ensures in blocks_measure lines.lead lines.consistent c.block_measures.ensures.solid c.block_measures.ensures.others c.solids_are_there.ensures.block
