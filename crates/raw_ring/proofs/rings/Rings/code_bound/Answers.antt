use Rattle.std.proofs.Common.{arith}
use Rattle.raw_ring.proofs.Tying.{known_within}
use Rattle.raw_ring.proofs.rings.Rings.code_bound.Goals as goal

pub returns-clause-above : goal.returns-clause-above
returns-clause-above c q h = omega (arith, c.len.ensures, known_within _ c.self.inside.nodes q (rw (← c.self.view_is) at h))

pub returns-clause-fits : goal.returns-clause-fits
returns-clause-fits c = omega (arith, c.len.ensures, c.self.invariant.fits)
