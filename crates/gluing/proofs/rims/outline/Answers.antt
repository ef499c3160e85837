use Rattle.gluing.proofs.Prelude.{◌∙◌, subst, rules, tests, of_calls, YieldsList-from_first, YieldsList-at, code, IsIn, start, rim, serves_listed}
use Rattle.std.proofs.lemmas.Iterator.{YieldsList-from_map, items_from_collect}
use Rattle.gluing.proofs.Found.{rim_there}
use Rattle.gluing.proofs.rims.outline.Goals as goal

pub returns : goal.returns
returns c =
    let M = c.args.arena.now.model in
    items_from_collect c.collect.result c.collect.ensures.ran (YieldsList-from_map _ (start M) (YieldsList-at c.map.ensures.source (YieldsList-from_first code (λ left. left) (rim M c.args.f) c.rim.ensures)) c.map.ensures.closure (λ x r q k. search (rules, tests)))

pub collect-requires-clause-can : goal.collect-requires-clause-can
collect-requires-clause-can c = (tt, serves_listed code _ (λ x q k. search rules) (λ x i. let there = rim_there c.args.arena.now.model c.requires.ready.sound c.args.f (code x) (subst (IsIn (code x)) (c.map.ensures.source ∙ c.rim.ensures) i) in let same = c.map.ensures.closure in search of_calls))
