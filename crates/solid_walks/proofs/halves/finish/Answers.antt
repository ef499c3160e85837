use Rattle.solid_walks.proofs.Prelude.{ap, ◌∙◌, code, has_half, edge_of-mate}
use Rattle.euler_operators.specs.Table as table
use Rattle.solid_walks.proofs.halves.finish.Goals as goal

pub start-requires-clause-there : goal.start-requires-clause-there
start-requires-clause-there c = ap (has_half c.args.arena.now.model) c.mate.ensures ∙ ap (table.has c.args.arena.now.model.edges) (edge_of-mate (code c.args.h)) ∙ c.requires.there
