use Rattle.solid_walks.proofs.Prelude.{YieldsList-from_first, map_from_collect, code, cycle_of}
use Rattle.solid_walks.proofs.face_walks.items.items_from.Goals as goal

pub returns : goal.returns
returns c = map_from_collect c.collect.result c.collect.ensures.ran (YieldsList-from_first code (λ left. left) (cycle_of c.args.arena.now.model (code c.args.h)) c.items_of.ensures)
