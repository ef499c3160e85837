use Rattle.solid_walks.proofs.Prelude.{ap, ◌∙◌, code}
use Rattle.euler_operators.specs.Table as table
use Rattle.solid_walks.proofs.halves.start.Goals as goal

pub point-requires : goal.point-requires
point-requires c = ap (table.has c.args.arena.now.model.vertices) c.tail.ensures ∙ c.requires.ready.sound.tails_there (code c.args.h) c.requires.there
