use Rattle.solid_measure.proofs.Prelude.{◌∙◌, ap, map, list_all, is_on, code, content, point_of, tail, ring_has, item_of}
use Rattle.solid_measure.proofs.FlatFaces.{ring_vertices}
use Rattle.solid_measure.proofs.loops.loop_lies_on.Goals as goal

pub ring_lies_on-requires-clause-there : goal.ring_lies_on-requires-clause-there
ring_lies_on-requires-clause-there c = let M = c.args.arena.now.model in (item_of M c.requires.ready.sound c.args.l (code c.in-Ring.first) (ring_has (content M c.args.l) c.in-Ring.first c.in-Ring.ensures)).0

pub returns-in-Ring : goal.returns-in-Ring
returns-in-Ring c =
    let M = c.args.arena.now.model in let p = c.args.plane in
    let same = (item_of M c.requires.ready.sound c.args.l (code c.in-Ring.first) (ring_has (content M c.args.l) c.in-Ring.first c.in-Ring.ensures)).1 in
    c.ring_lies_on.ensures ∙ ap (λ hs. list_all (λ v. is_on p (point_of M v)) (map (tail M) hs)) same ∙ ring_vertices M p (content M c.args.l) c.in-Ring.first c.in-Ring.ensures
