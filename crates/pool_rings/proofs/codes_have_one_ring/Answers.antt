use Rattle.pool_rings.proofs.Closed.{ring_through, turned, share_or_two}
use Rattle.pool_rings.proofs.codes_have_one_ring.Goals as goal

pub returns : goal.returns
returns c = record {
  there = λ m c p live. ring_through m p c live;
  one = turned;
  two = share_or_two;
}
