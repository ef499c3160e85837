use Rattle.std.proofs.Common.{arith}
use Rattle.solid_measure.proofs.solid_counts_laws.Tallies.{more_fits, less_fits, tally_is}
use Rattle.solid_measure.proofs.solid_counts.solids.tally.Goals as goal

pub overflow_add-met : goal.overflow_add-met
overflow_add-met c =
    omega (arith, more_fits c.args.arena.now.model c.requires.sound c.args.s c.solid_met-rings.result.0 c.face_count-faces.result c.solid_met-rings.result.1 c.solid_met-rings.ensures.met c.face_count-faces.ensures c.solid_met-rings.ensures.rings)

pub overflow_add-met-2 : goal.overflow_add-met-2
overflow_add-met-2 c =
    omega (arith, less_fits c.args.arena.now.model c.requires.sound c.args.s c.solid_met-rings.result.0 c.face_count-faces.result c.solid_met-rings.result.1 c.solid_met-rings.ensures.met c.face_count-faces.ensures c.solid_met-rings.ensures.rings)

pub returns : goal.returns
returns c =
    tally_is c.args.arena.now.model c.requires.sound c.args.s c.solid_met-rings.result.0 c.face_count-faces.result c.solid_met-rings.result.1
    c.solid_met-rings.ensures.met c.face_count-faces.ensures c.solid_met-rings.ensures.rings c.from.result c.from-2.result c.from.ensures c.from-2.ensures
