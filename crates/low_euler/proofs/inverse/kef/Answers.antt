use Rattle.low_euler.proofs.Prelude.{ap, ◌∙◌}
use Rattle.euler_operators.specs.Table as table
use Rattle.low_euler.proofs.Inverses.{half_then, kef_inverse}
use Rattle.low_euler.proofs.inverse.kef.Goals as goal

pub in_use-requires-2 : goal.in_use-requires-2
in_use-requires-2 c = ap (table.has _) c.face_of-face.ensures ∙ c.requires.ready.sound.loops_of_faces _ c.loop_of-killed.ensures.there

pub returns-clause-is : goal.returns-clause-is
returns-clause-is c =
    kef_inverse c.args.arena.now.model c.args.h c.mate-mate.result c.next-first.result c.next-second.result c.face_of-face.result c.loop_of-killed.result c.mate-mate.ensures (half_then c.next-first.result c.next-first.ensures.next) (half_then c.next-second.result c.next-second.ensures.next) c.loop_of-killed.ensures.is c.face_of-face.ensures
