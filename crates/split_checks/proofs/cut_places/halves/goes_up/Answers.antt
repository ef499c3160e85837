use Rattle.split_checks.proofs.Prelude.{◌∙◌, ap, code, has_half, height, sign_of, Above, edge_of-mate, finish, start, same_sign}
use Rattle.euler_operators.specs.Table as table
use Rattle.split_checks.proofs.cut_places_laws.Signs.{sign_lies}
use Rattle.split_checks.proofs.cut_places.halves.goes_up.Goals as goal

pub start_side-requires-clause-there : goal.start_side-requires-clause-there
start_side-requires-clause-there c = ap (has_half c.args.arena.now.model) c.mate.ensures ∙ ap (table.has c.args.arena.now.model.edges) (edge_of-mate (code c.args.h)) ∙ c.requires.there

pub returns-clause-is : goal.returns-clause-is
returns-clause-is c =
    let M = c.args.arena.now.model in let p = c.args.plane in
    c.same.ensures ∙ ap (λ side. same_sign side Above) (c.start_side.ensures.is ∙ ap (λ k. sign_of (height p (start M k))) c.mate.ensures) ∙ sign_lies Above p (finish M (code c.args.h))
