use Rattle.solid_measure.proofs.solid_counts_laws.LoopRounds.{half_is}
use Rattle.solid_measure.proofs.solid_counts.loops.half_met.Goals as goal

pub returns : goal.returns
returns c = half_is c.args.arena.now.model c.args.code c.leads.result c.from.result c.from-2.result c.leads.ensures c.from.ensures c.from-2.ensures
