use Rattle.pool_rings.proofs.Spliced.{cut, joined_rings, others, same_code}
use Rattle.pool_rings.proofs.splices_of_pools.Goals as goal

pub returns : goal.returns
returns c = record {
  cut = cut;
  joined = joined_rings;
  others = others;
  one = same_code;
  back = λ m p q c permuted. permuted.one p q c;
}
