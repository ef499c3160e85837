use Rattle.raw_ring.proofs.Copies.{IsBegun}
use Rattle.raw_ring.proofs.rings.Rings.copy_codes.Given as goal

abbrev pub invariant-loop-code : goal.invariant-loop-code
invariant-loop-code l = IsBegun l.self l.copy l.code
