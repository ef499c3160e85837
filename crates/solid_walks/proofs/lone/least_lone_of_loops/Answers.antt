use Rattle.solid_walks.proofs.Prelude.{◌∙◌, refl, subst, rules, tests, of_calls, None, YieldsList-from_first, fold_from_yields_List, loops_of, IsIn, lesser, only}
use Rattle.solid_walks.proofs.face_walks_laws.FaceWalks.{loop_in}
use Rattle.solid_walks.proofs.face_walks_laws.Yielded.{serves_folding}
use Rattle.solid_walks.proofs.lone_laws.Searches.{fold_lesser}
use Rattle.solid_walks.proofs.lone_laws.LoneLoops.{lone_at, lone_of, face_lone}
use Rattle.solid_walks.proofs.lone.least_lone_of_loops.Goals as goal

pub returns : goal.returns
returns c =
    let M = c.args.arena.now.model in let ls = loops_of M c.args.f in
    fold_from_yields_List _ (λ o l. lesser o (only (lone_at M l) l)) None c.fold.result c.fold.ensures.ran (YieldsList-from_first (λ l. l) (λ left. left) ls c.loops_of.ensures) (λ a x b q k. search (rules, tests))
    ∙ fold_lesser (λ l. only (lone_at M l) l) (lone_of M) refl (λ l ks. refl) None ls ∙ face_lone M c.requires.ready.sound c.args.f c.requires.there

pub fold-requires-clause-callable : goal.fold-requires-clause-callable
fold-requires-clause-callable c = serves_folding (λ l. l) c.loops_of.result (λ a x q k. search rules) (λ a l i. let there = loop_in c.args.arena.now.model c.requires.ready.sound c.args.f l c.requires.there (subst (IsIn l) c.loops_of.ensures i) in search of_calls)
