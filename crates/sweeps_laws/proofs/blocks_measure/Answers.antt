use Rattle.sweeps_laws.proofs.Block.{block_volume, block_keeps_others}
use Rattle.sweeps_laws.proofs.blocks_measure.Goals as goal

pub returns : goal.returns
returns c = record { product = block_volume; others = block_keeps_others }
