use Rattle.low_euler.proofs.Prelude.{◌∙◌, kemr_goes, of_half, mate_edge_there}
use Rattle.low_euler.proofs.Inverses.{kemr_inverse}
use Rattle.low_euler.proofs.inverse.kemr.Goals as goal

pub loop_of-kept-requires-clause-there : goal.loop_of-kept-requires-clause-there
loop_of-kept-requires-clause-there c = of_half c.args.arena.now.model c.args.h (kemr_goes c.args.arena.now.model c.args.h c.args.ring c.requires.accepted).h_there

pub corner_after-first-requires-clause-there : goal.corner_after-first-requires-clause-there
corner_after-first-requires-clause-there c =
    let M = c.args.arena.now.model in mate_edge_there M c.args.h c.mate-mate.result c.mate-mate.ensures (of_half M c.args.h (kemr_goes M c.args.h c.args.ring c.requires.accepted).h_there)

pub corner_after-second-requires-clause-there : goal.corner_after-second-requires-clause-there
corner_after-second-requires-clause-there c = of_half c.args.arena.now.model c.args.h (kemr_goes c.args.arena.now.model c.args.h c.args.ring c.requires.accepted).h_there

pub in_use-requires : goal.in_use-requires
in_use-requires c = of_half c.args.arena.now.model c.args.h (kemr_goes c.args.arena.now.model c.args.h c.args.ring c.requires.accepted).h_there

pub returns-clause-is : goal.returns-clause-is
returns-clause-is c =
    kemr_inverse c.args.arena.now.model c.requires.ready.sound c.args.h c.mate-mate.result c.args.ring c.packed.result c.packed-2.result c.loop_of-kept.result c.requires.accepted c.mate-mate.ensures c.loop_of-kept.ensures.is (c.packed.ensures ∙ c.corner_after-first.ensures) (c.packed-2.ensures ∙ c.corner_after-second.ensures)
