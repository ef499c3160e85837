use Rattle.split_checks.proofs.Prelude.{◌∙◌, ap, code}
use Rattle.euler_operators.specs.Table as table
use Rattle.split_checks.proofs.cut_places.noted.start_side.Goals as goal

pub vertex_side-requires-clause-there : goal.vertex_side-requires-clause-there
vertex_side-requires-clause-there c = ap (table.has c.args.arena.now.model.vertices) c.tail.ensures ∙ c.requires.ready.sound.tails_there (code c.args.h) c.requires.there
