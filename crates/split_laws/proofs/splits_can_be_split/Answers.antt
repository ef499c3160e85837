use Rattle.split_laws.proofs.measures.Splittable.{can_be_split}
use Rattle.split_laws.proofs.splits_can_be_split.Goals as goal

pub returns : goal.returns
returns c = record { all = can_be_split }
