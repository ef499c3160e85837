use Rattle.solid_walks.proofs.face_walks_laws.RingWalks.{rings_from_zero}
use Rattle.solid_walks.proofs.face_walks.loops.rings_of.Goals as goal

pub returns : goal.returns
returns c = rings_from_zero c.args.arena.now.model c.args.f c.requires.sound
