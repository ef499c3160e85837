use Rattle.sweeps_laws.proofs.lamina.Blocks.{blocks_have_bases, bases_rise}
use Rattle.sweeps_laws.proofs.blocks_rise_from_bases.Goals as goal

pub returns : goal.returns
returns c = record { base = blocks_have_bases; rise = bases_rise }
