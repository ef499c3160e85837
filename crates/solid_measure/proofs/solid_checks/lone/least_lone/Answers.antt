use Rattle.solid_measure.proofs.Prelude.{◌∙◌, subst, rules, tests, of_calls, None, [], ◌∷◌, YieldsList-from_first, fold_from_yields_List, faces_of, IsIn, least_lone, lesser, face_in, serves_folding, fold_lesser, least_none, least_more}
use Rattle.solid_measure.proofs.solid_checks.lone.least_lone.Goals as goal

pub returns : goal.returns
returns c =
    let M = c.args.arena.now.model in let fs = faces_of M c.args.s in
    fold_from_yields_List _ (λ o f. lesser o (least_lone M (f ∷ []))) None c.fold.result c.fold.ensures.ran (YieldsList-from_first (λ f. f) (λ left. left) fs c.faces_of.ensures) (λ a x b q k. search (rules, tests))
    ∙ fold_lesser (λ f. least_lone M (f ∷ [])) (least_lone M) (least_none M c.requires.sound) (least_more M c.requires.sound) None fs

pub fold-requires-clause-callable : goal.fold-requires-clause-callable
fold-requires-clause-callable c = serves_folding (λ f. f) c.faces_of.result (λ a x q k. search rules) (λ a f i. let there = face_in c.args.arena.now.model c.requires.sound c.args.s f (subst (IsIn f) c.faces_of.ensures i) in search of_calls)
