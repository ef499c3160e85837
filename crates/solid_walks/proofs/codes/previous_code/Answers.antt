use Rattle.solid_walks.proofs.Prelude.{ap, ◌∙◌, before, has_half}
use Rattle.solid_walks.proofs.face_walks_laws.HalfCodes.{coded, edge_fits}
use Rattle.solid_walks.proofs.codes.previous_code.Goals as goal

pub previous-requires-clause-there : goal.previous-requires-clause-there
previous-requires-clause-there c = ap (has_half c.args.arena.now.model) (coded c.of_code.result c.args.code c.of_code.ensures) ∙ c.requires.there

pub code-requires : goal.code-requires
code-requires c = edge_fits c.args.arena.now.model c.requires.ready.sound c.previous.result c.previous.ensures.there

pub returns-clause-previous : goal.returns-clause-previous
returns-clause-previous c = let M = c.args.arena.now.model in c.code.ensures ∙ c.previous.ensures.previous ∙ ap (before M) (coded c.of_code.result c.args.code c.of_code.ensures)

pub returns-clause-there : goal.returns-clause-there
returns-clause-there c = ap (has_half c.args.arena.now.model) c.code.ensures ∙ c.previous.ensures.there
