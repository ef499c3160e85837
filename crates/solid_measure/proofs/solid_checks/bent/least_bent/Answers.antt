use Rattle.solid_measure.proofs.Prelude.{◌∙◌, sym, subst, rules, tests, of_calls, not, YieldsList-from_first, find_from_yields_List, faces_of, IsIn, face_in, serves_listed, is_flat, first_is}
use Rattle.std.proofs.lemmas.Iterator.Adapters.{option_map_id}
use Rattle.solid_measure.proofs.solid_checks.bent.least_bent.Goals as goal

pub returns : goal.returns
returns c =
    let M = c.args.arena.now.model in let fs = faces_of M c.args.s in
    sym (option_map_id c.find.result) ∙ find_from_yields_List (λ f. not (is_flat M f)) _ _ c.find.result c.find.ensures.ran (YieldsList-from_first (λ f. f) (λ left. left) fs c.faces_of.ensures) (λ x b q k. search (rules, tests)) ∙ first_is (λ f. not (is_flat M f)) fs

pub find-requires-clause-callable : goal.find-requires-clause-callable
find-requires-clause-callable c = serves_listed (λ f. f) c.faces_of.result (λ x q k. search rules) (λ f i. let there = face_in c.args.arena.now.model c.requires.sound c.args.s f (subst (IsIn f) c.faces_of.ensures i) in search of_calls)
