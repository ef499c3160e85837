use Rattle.solid_walks.proofs.Prelude.{ap, ◌∷◌, outer, loops_of}
use Rattle.solid_walks.proofs.face_walks_laws.RingWalks.{rings_from_zero}
use Rattle.solid_walks.proofs.face_walks.loops.loops_of.Goals as goal

pub returns : goal.returns
unfolding loops_of
returns c = let M = c.args.arena.now.model in ap (λ ls. outer M c.args.f ∷ ls) (rings_from_zero M c.args.f c.requires.sound)
