use Rattle.solid_measure.proofs.Prelude.{◌∙◌, sym, subst, rules, tests, of_calls, YieldsList-from_first, all_from_yields_List, is_on, rotate_to, code, cycle_of, point_of, tail, IsIn, rotate_to-rotates, start, round_there, serves_listed}
use Rattle.solid_measure.proofs.FlatFaces.{all_turned, all_mapped}
use Rattle.solid_measure.proofs.loops.ring_lies_on.Goals as goal

pub returns : goal.returns
returns c =
    let M = c.args.arena.now.model in let p = c.args.plane in let h = code c.args.first in
    all_from_yields_List (λ x. is_on p (start M x)) _ _ c.all.result c.all.ensures.ran (YieldsList-from_first code (λ left. left) (rotate_to h (cycle_of M h)) c.items_round.ensures) (λ x b q k. search (rules, tests))
    ∙ sym (all_turned (λ x. is_on p (start M x)) (cycle_of M h) (rotate_to h (cycle_of M h)) (rotate_to-rotates h (cycle_of M h))) ∙ all_mapped (λ v. is_on p (point_of M v)) (tail M) (cycle_of M h)

pub all-requires-clause-callable : goal.all-requires-clause-callable
all-requires-clause-callable c = serves_listed code c.items_round.result (λ x q k. search rules) (λ x i. let there = round_there c.args.arena.now.model c.requires.ready.sound (code c.args.first) c.requires.there (code x) (subst (IsIn (code x)) c.items_round.ensures i) in search of_calls)
