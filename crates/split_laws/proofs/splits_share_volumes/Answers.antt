use Rattle.split_laws.proofs.volumes.Split.{split_shares, split_keeps}
use Rattle.split_laws.proofs.splits_share_volumes.Goals as goal

pub returns : goal.returns
returns c = record { two = split_shares; others = split_keeps }
