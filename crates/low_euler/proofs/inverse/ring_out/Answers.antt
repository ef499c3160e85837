use Rattle.low_euler.proofs.Prelude.{ap, ◌∙◌, inverse, outer, Outer}
use Rattle.low_euler.proofs.inverse.ring_out.Goals as goal

pub returns-clause-is : goal.returns-clause-is
unfolding inverse
returns-clause-is c = ap (λ l. Outer l c.face_of-home.result) c.outer-old.ensures ∙ ap (Outer (outer c.args.arena.now.model c.args.face)) c.face_of-home.ensures
