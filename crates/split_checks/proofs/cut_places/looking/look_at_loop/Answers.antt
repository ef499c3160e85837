use Rattle.split_checks.proofs.Prelude.{content, items_of, vertices_on}
use Rattle.split_checks.proofs.cut_places_laws.Met.{some_told}
use Rattle.split_checks.proofs.cut_places.looking.look_at_loop.Goals as goal

pub returns-clause-cut : goal.returns-clause-cut
returns-clause-cut c =
    let M = c.args.arena.now.model in let l = content M c.args.l in
    some_told M c.args.plane.now c.args.looked.now c.look_along.new.looked (items_of l) (vertices_on M l) c.in_ok-look_along.ensures.met c.len-before.result c.len.result c.len-before.ensures c.len.ensures
