use Rattle.raw_ring.proofs.Copies.{IsFollowed}
use Rattle.raw_ring.proofs.rings.Rings.follow.Given as goal

abbrev pub invariant-loop-code : goal.invariant-loop-code
invariant-loop-code l = IsFollowed l.from l.self l.code
