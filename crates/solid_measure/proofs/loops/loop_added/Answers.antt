use Rattle.solid_measure.proofs.Prelude.{content, read}
use Rattle.solid_measure.proofs.AreaRounds.{lone_adds}
use Rattle.solid_measure.proofs.loops.loop_added.Goals as goal

pub returns-in-Lone : goal.returns-in-Lone
returns-in-Lone c = lone_adds c.args.arena.now.model (content c.args.arena.now.model c.args.l) c.in-Lone.field-0 (read c.args.vector) c.in-Lone.ensures
