use Rattle.low_euler.proofs.Prelude.{ap, ◌∙◌, code, kev_goes, half_of, of_half, mate_edge_there}
use Rattle.euler_operators.specs.Table as table
use Rattle.low_euler.proofs.Inverses.{kev_inverse}
use Rattle.low_euler.proofs.inverse.kev.Goals as goal

pub tail-killed-requires : goal.tail-killed-requires
tail-killed-requires c = half_of c.args.arena.now.model c.mate.result (mate_edge_there c.args.arena.now.model c.args.h c.mate.result c.mate.ensures (of_half c.args.arena.now.model c.args.h (kev_goes c.args.arena.now.model c.args.h c.requires.ready.sound c.requires.accepted).h_there))

pub point-point-requires : goal.point-point-requires
point-point-requires c =
    let M = c.args.arena.now.model in
    ap (table.has M.vertices) c.tail-killed.ensures ∙ c.requires.ready.sound.tails_there (code c.mate.result) (half_of M c.mate.result (mate_edge_there M c.args.h c.mate.result c.mate.ensures (of_half M c.args.h (kev_goes M c.args.h c.requires.ready.sound c.requires.accepted).h_there)))

pub in_use-requires : goal.in_use-requires
in_use-requires c = of_half c.args.arena.now.model c.args.h (kev_goes c.args.arena.now.model c.args.h c.requires.ready.sound c.requires.accepted).h_there

pub in_use-requires-2 : goal.in_use-requires-2
in_use-requires-2 c =
    let M = c.args.arena.now.model in
    ap (table.has M.vertices) c.tail-killed.ensures ∙ c.requires.ready.sound.tails_there (code c.mate.result) (half_of M c.mate.result (mate_edge_there M c.args.h c.mate.result c.mate.ensures (of_half M c.args.h (kev_goes M c.args.h c.requires.ready.sound c.requires.accepted).h_there)))

pub returns-clause-is : goal.returns-clause-is
returns-clause-is c =
    kev_inverse c.args.arena.now.model c.args.h c.mate.result c.packed.result c.packed-2.result c.tail-killed.result c.point-point.result c.mate.ensures (c.packed.ensures ∙ c.kev_corners-first.ensures.first) (c.packed-2.ensures ∙ c.kev_corners-first.ensures.second) c.tail-killed.ensures c.point-point.ensures.point
