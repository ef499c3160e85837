use Rattle.sweeps.proofs.Prelude.{◌∙◌, [], refl, ap, subst, rules, tests, of_calls, fold, YieldsList-from_first, fold_from_yields_List, IsIn, content, corners, loops_of, vertices_in, vertices_on, serves_folding, joined, tally}
use Rattle.solid_walks.proofs.face_walks_laws.FaceWalks.{loop_in}
use Rattle.sweeps.proofs.Tallies.{tally_none, fold_tallies}
use Rattle.sweeps.proofs.corners.face_tally.Goals as goal

pub returns : goal.returns
unfolding corners
returns c =
    let M = c.args.arena.now.model in let d = c.args.shift in let ls = loops_of M c.args.f in
    fold_from_yields_List _ (λ t l. joined t (tally M d (vertices_on M (content M l)))) _ c.fold.result c.fold.ensures.ran (YieldsList-from_first (λ l. l) (λ left. left) ls c.loops_of.ensures) (λ a x b q k. search (rules, tests))
    ∙ ap (λ t. fold (λ t l. joined t (tally M d (vertices_on M (content M l)))) t ls) (tally_none M d) ∙ fold_tallies M d (λ l. vertices_on M (content M l)) (vertices_in M) refl (λ l ls. refl) [] ls

pub fold-requires-clause-callable : goal.fold-requires-clause-callable
fold-requires-clause-callable c = serves_folding (λ l. l) c.loops_of.result (λ a x q k. search rules) (λ a l i. let there = loop_in c.args.arena.now.model c.requires.ready.sound c.args.f l c.requires.there (subst (IsIn l) c.loops_of.ensures i) in search of_calls)
