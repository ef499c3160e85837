use Rattle.sweeps_laws.proofs.BlockOps.{blocks_are_accepted, operators_make_blocks, blocks_are_sound}
use Rattle.sweeps_laws.proofs.operators_make_blocks.Goals as goal

pub returns : goal.returns
returns c = record { accepted = blocks_are_accepted; made = operators_make_blocks; sound = blocks_are_sound }
