use Rattle.split_checks.proofs.Prelude.{◌∙◌, ap, height, sign_of, has_half, start, coded}
use Rattle.split_checks.proofs.cut_places.noted.side_of_code.Goals as goal

pub start_side-requires-clause-there : goal.start_side-requires-clause-there
start_side-requires-clause-there c = ap (has_half c.args.arena.now.model) (coded c.of_code.result c.args.code c.of_code.ensures) ∙ c.requires.there

pub returns-clause-is : goal.returns-clause-is
returns-clause-is c = c.start_side.ensures.is ∙ ap (λ k. sign_of (height c.args.plane (start c.args.arena.now.model k))) (coded c.of_code.result c.args.code c.of_code.ensures)
