use Rattle.solid_walks.proofs.Prelude.{ap, ◌∙◌, has_half, start}
use Rattle.solid_walks.proofs.face_walks_laws.HalfCodes.{coded}
use Rattle.solid_walks.proofs.codes.start_of_code.Goals as goal

pub start-requires-clause-there : goal.start-requires-clause-there
start-requires-clause-there c = ap (has_half c.args.arena.now.model) (coded c.of_code.result c.args.code c.of_code.ensures) ∙ c.requires.there

pub returns-clause-point : goal.returns-clause-point
returns-clause-point c = c.start.ensures.point ∙ ap (start c.args.arena.now.model) (coded c.of_code.result c.args.code c.of_code.ensures)
