use Rattle.split_checks.proofs.Prelude.{OnOk, ℕ, List, map, refl, subst, sym, content, items_of, point_of, tail, filled, IsMet}
use Rattle.split_checks.proofs.cut_places_laws.Walks.{ring_there, ring_cycle, ring_vertices}
use Rattle.split_checks.proofs.cut_places_laws.Met.{lone_holds}
use Rattle.split_checks.proofs.cut_places.looking.look_along.Goals as goal

pub content-requires-clause-filled : goal.content-requires-clause-filled
content-requires-clause-filled c = filled c.args.arena.now.model c.requires.ready.sound c.args.l c.requires.there

pub look_round-requires-clause-there : goal.look_round-requires-clause-there
look_round-requires-clause-there c = ring_there c.args.arena.now.model c.requires.ready.sound c.args.l c.in-Ring.h c.in-Ring.ensures

pub returns-in-Lone-clause-met : goal.returns-in-Lone-clause-met
returns-in-Lone-clause-met c = lone_holds c.args.arena.now.model c.args.plane.now (content c.args.arena.now.model c.args.l) c.in-Lone.v (point_of c.args.arena.now.model c.in-Lone.v) c.args.looked.now c.mark_side.new.looked c.vertex_side.result c.in-Lone.ensures refl c.vertex_side.ensures.is c.mark_side.ensures

pub returns-in-Ring-clause-met : goal.returns-in-Ring-clause-met
returns-in-Ring-clause-met c =
    let M = c.args.arena.now.model in let p = c.args.plane.now in let l = c.args.l in let old = c.args.looked.now in let new = c.look_round.new.looked in
    subst (λ (vs : List ℕ). OnOk c.look_round.result (IsMet M p old new (items_of (content M l)) vs)) (sym (ring_vertices M (content M l) c.in-Ring.h c.in-Ring.ensures))
    (subst (λ (hs : List ℕ). OnOk c.look_round.result (IsMet M p old new hs (map (tail M) hs))) (ring_cycle M c.requires.ready.sound l c.in-Ring.h c.in-Ring.ensures) c.look_round.ensures.met)
