use Rattle.solid_walks.proofs.face_walks_laws.FaceWalks.{faces_from_zero}
use Rattle.solid_walks.proofs.face_walks.faces.faces_of.Goals as goal

pub returns : goal.returns
returns c = faces_from_zero c.args.arena.now.model c.requires c.args.s
