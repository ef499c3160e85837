use Rattle.split_laws.proofs.volumes.Split.{part_shares, part_keeps}
use Rattle.split_laws.proofs.parting_shares_volumes.Goals as goal

pub returns : goal.returns
returns c = record { two = part_shares; others = part_keeps }
