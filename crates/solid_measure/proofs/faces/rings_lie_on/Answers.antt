use Rattle.solid_measure.proofs.Prelude.{subst, rules, tests, of_calls, list_all, YieldsList-from_first, all_from_yields_List, is_on, content, point_of, rings_of, IsIn, vertices_on, loop_in, serves_listed}
use Rattle.solid_measure.proofs.FlatFaces.{ring_in}
use Rattle.solid_measure.proofs.faces.rings_lie_on.Goals as goal

pub returns : goal.returns
returns c =
    let M = c.args.arena.now.model in let p = c.args.plane in
    all_from_yields_List (λ l. list_all (λ v. is_on p (point_of M v)) (vertices_on M (content M l))) _ _ c.all.result c.all.ensures.ran (YieldsList-from_first (λ l. l) (λ left. left) (rings_of M c.args.f) c.rings_of.ensures) (λ x b q k. search (rules, tests))

pub all-requires-clause-callable : goal.all-requires-clause-callable
all-requires-clause-callable c =
    let M = c.args.arena.now.model in
    serves_listed (λ l. l) c.rings_of.result (λ x q k. search rules) (λ l i. let there = loop_in M c.requires.ready.sound c.args.f l c.requires.there (ring_in M c.args.f l (subst (IsIn l) c.rings_of.ensures i)) in search of_calls)
