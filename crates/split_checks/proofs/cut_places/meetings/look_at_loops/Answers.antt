use Rattle.split_checks.proofs.Prelude.{◌∙◌, ap, ◌&&◌, ◌||◌, not, nat_eq, boundary, corners, is_cut_often, loop_is_cut, places}
use Rattle.split_checks.proofs.cut_places_laws.Met.{face_looked, no_fewer, counted}
use Rattle.split_checks.proofs.cut_places.meetings.look_at_loops.Goals as goal

pub overflow_sub-places : goal.overflow_sub-places
overflow_sub-places c =
    let M = c.args.arena.now.model in let p = c.args.plane.now in let f = c.args.f in
    let met = face_looked M p f c.args.looked.now c.look_at_loop.new.looked c.look_at_rings.new.looked c.outer.result c.outer.ensures c.in_ok-outer_cut.ensures.met c.in_ok-rings_cut.ensures.met in
    no_fewer M p c.args.looked.now c.look_at_rings.new.looked (boundary M f) (corners M f) met c.len-before.result c.len.result c.len-before.ensures c.len.ensures

pub returns-clause-met : goal.returns-clause-met
returns-clause-met c =
    face_looked c.args.arena.now.model c.args.plane.now c.args.f c.args.looked.now c.look_at_loop.new.looked c.look_at_rings.new.looked c.outer.result c.outer.ensures c.in_ok-outer_cut.ensures.met c.in_ok-rings_cut.ensures.met

pub returns-clause-often : goal.returns-clause-often
unfolding is_cut_often places
returns-clause-often c =
    let M = c.args.arena.now.model in let p = c.args.plane.now in let f = c.args.f in
    let met = face_looked M p f c.args.looked.now c.look_at_loop.new.looked c.look_at_rings.new.looked c.outer.result c.outer.ensures c.in_ok-outer_cut.ensures.met c.in_ok-rings_cut.ensures.met in
    let many = counted M p c.args.looked.now c.look_at_rings.new.looked (boundary M f) (corners M f) met c.len-before.result c.len.result c.len-before.ensures c.len.ensures in
    c.is_often.ensures ∙ (λ i. not ((c.in_ok-outer_cut.ensures.cut ∙ ap (loop_is_cut M p) c.outer.ensures) i) || (not (c.in_ok-rings_cut.ensures.cut i) && not (nat_eq (many i) 2)))
