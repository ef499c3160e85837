use Rattle.low_euler.proofs.Prelude.{ap, ◌∙◌, inverse, outer, RingOut, outer_goes_so}
use Rattle.euler_operators.specs.Table as table
use Rattle.low_euler.proofs.inverse.outer.Goals as goal

pub outer-old-requires : goal.outer-old-requires
outer-old-requires c = ap (table.has _) c.face_of-home.ensures ∙ c.requires.ready.sound.loops_of_faces _ (outer_goes_so _ _ _ c.requires.accepted).l_there

pub returns-clause-is : goal.returns-clause-is
unfolding inverse
returns-clause-is c = ap (λ l. RingOut l c.face_of-home.result) c.outer-old.ensures ∙ ap (λ f. RingOut (outer c.args.arena.now.model f) f) c.face_of-home.ensures
