use Rattle.sweeps.proofs.Prelude.{◌∙◌, [], ◌∷◌, refl, ap, subst, rules, tests, of_calls, fold, map, YieldsList-from_first, fold_from_yields_List, IsIn, code, cycle_of, tail, serves_folding, joined, tally}
use Rattle.solid_walks.proofs.face_walks_laws.CycleWalks.{item_there}
use Rattle.sweeps.proofs.Tallies.{tally_none, fold_tallies}
use Rattle.sweeps.proofs.corners.ring_tally.Goals as goal

pub returns : goal.returns
returns c =
    let M = c.args.arena.now.model in let d = c.args.shift in let hs = cycle_of M (code c.args.h) in
    fold_from_yields_List _ (λ t h. joined t (tally M d (tail M h ∷ []))) _ c.fold.result c.fold.ensures.ran (YieldsList-from_first code (λ left. left) hs c.items_of.ensures) (λ a x b q k. search (rules, tests))
    ∙ ap (λ t. fold (λ t h. joined t (tally M d (tail M h ∷ []))) t hs) (tally_none M d) ∙ fold_tallies M d (λ h. tail M h ∷ []) (map (tail M)) refl (λ h hs. refl) [] hs

pub fold-requires-clause-callable : goal.fold-requires-clause-callable
fold-requires-clause-callable c = serves_folding code c.items_of.result (λ a x q k. search rules) (λ a x i. let there = item_there c.args.arena.now.model c.requires.ready.sound (code c.args.h) c.requires.there (code x) (subst (IsIn (code x)) c.items_of.ensures i) in search of_calls)
