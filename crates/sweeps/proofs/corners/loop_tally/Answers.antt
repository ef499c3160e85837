use Rattle.sweeps.proofs.Tallies.{half_told}
use Rattle.sweeps.proofs.corners.loop_tally.Goals as goal

pub ring_tally-requires-clause-there : goal.ring_tally-requires-clause-there
ring_tally-requires-clause-there c = half_told c.args.arena.now.model c.args.shift c.requires.ready.sound c.args.l c.in-Ring.h c.content.result c.in-Ring.is c.content.ensures
