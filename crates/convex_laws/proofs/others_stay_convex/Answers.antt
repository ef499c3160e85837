use Rattle.convex_laws.proofs.Others.{block_keeps_convex, block_keeps_strictly, split_leaves_convex, split_leaves_strictly}
use Rattle.convex_laws.proofs.others_stay_convex.Goals as goal

pub returns : goal.returns
returns c = record { block = block_keeps_convex; split = split_leaves_convex; strictly_block = block_keeps_strictly; strictly_split = split_leaves_strictly }
