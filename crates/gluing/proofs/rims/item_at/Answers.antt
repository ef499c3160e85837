use Rattle.gluing.proofs.Prelude.{◌∙◌, ℕ, Bool, ap, sym, subst, rules, tests, of_calls, is_some, unwrap_or, option_map, YieldsList-from_first, IsIn, same_point, code, same_as, start, rim, serves_listed, first_is, item_at}
use Rattle.std.proofs.lemmas.Iterator.Search.{find_from_yields_List}
use Rattle.gluing.proofs.Found.{rim_there, is_found, some_mapped}
use Rattle.gluing.proofs.rims.item_at.Goals as goal

pub find-requires-clause-callable : goal.find-requires-clause-callable
find-requires-clause-callable c = serves_listed code c.rim.result (λ x q k. search rules) (λ x i. let there = rim_there c.args.arena.now.model c.requires.ready.sound c.args.f (code x) (subst (IsIn (code x)) c.rim.ensures i) in search of_calls)

pub unwrap-requires : goal.unwrap-requires
unwrap-requires c =
    let M = c.args.arena.now.model in let test : ℕ → Bool = λ k. same_point (start M k) c.args.point in
    some_mapped code c.find.result
    (ap is_some (find_from_yields_List test _ _ c.find.result c.find.ensures.ran (YieldsList-from_first code (λ left. left) (rim M c.args.f) c.rim.ensures) (λ x b q k. search (rules, tests)) ∙ first_is test (rim M c.args.f))
    ∙ is_found test (rim M c.args.f) (item_at M c.args.f c.args.point) c.requires.inside (same_as (start M (item_at M c.args.f c.args.point)) c.args.point c.requires.starts))

pub returns : goal.returns
returns c =
    let M = c.args.arena.now.model in let test : ℕ → Bool = λ k. same_point (start M k) c.args.point in
    ap (λ o. unwrap_or o 0) (ap (option_map code) (sym c.unwrap.ensures)
    ∙ find_from_yields_List test _ _ c.find.result c.find.ensures.ran (YieldsList-from_first code (λ left. left) (rim M c.args.f) c.rim.ensures) (λ x b q k. search (rules, tests)) ∙ first_is test (rim M c.args.f))
