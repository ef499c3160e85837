use Rattle.split_checks.proofs.Prelude.{◌≡◌, ◌∙◌, ap, sym, list_any, Sign, Above, Below, code, content, cycle_of, items_of, point_of, tail, start, vertices_on, filled, lies, side_reached, some_lie, some_start}
use Rattle.split_checks.proofs.cut_places_laws.Lists.{any_map}
use Rattle.split_checks.proofs.cut_places_laws.NotedSides.{lone_side}
use Rattle.split_checks.proofs.cut_places_laws.Walks.{ring_there, ring_cycle, ring_vertices}
use Rattle.split_checks.proofs.cut_places.face_sides.loop_side.Goals as goal

pub content-requires-clause-filled : goal.content-requires-clause-filled
content-requires-clause-filled c = filled c.args.arena.now.model c.requires.ready.sound c.args.l c.requires.there

pub returns-in-Lone-clause-is : goal.returns-in-Lone-clause-is
returns-in-Lone-clause-is c = let M = c.args.arena.now.model in lone_side M c.args.plane (content M c.args.l) c.in-Lone.v c.vertex_side.result c.in-Lone.ensures c.vertex_side.ensures.is

pub ring_side-requires-clause-there : goal.ring_side-requires-clause-there
ring_side-requires-clause-there c = ring_there c.args.arena.now.model c.requires.ready.sound c.args.l c.in-Ring.h c.in-Ring.ensures

pub returns-in-Ring-clause-is : goal.returns-in-Ring-clause-is
returns-in-Ring-clause-is c =
    let M = c.args.arena.now.model in let l = c.args.l in let p = c.args.plane in
    let over : (side : Sign) → some_start side M p (cycle_of M (code c.in-Ring.h)) ≡ some_lie side M p (vertices_on M (content M l)) = λ side.
    ap (list_any (λ h. lies side p (start M h))) (ring_cycle M c.requires.ready.sound l c.in-Ring.h c.in-Ring.ensures)
    ∙ sym (ap (list_any (λ v. lies side p (point_of M v))) (ring_vertices M (content M l) c.in-Ring.h c.in-Ring.ensures) ∙ any_map (λ v. lies side p (point_of M v)) (tail M) (items_of (content M l))) in
    c.ring_side.ensures.is ∙ (λ i. side_reached (over Above i) (over Below i))
