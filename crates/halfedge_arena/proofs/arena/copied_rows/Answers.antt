use Rattle.std.proofs.Common.{refl}
use Rattle.halfedge_arena.proofs.arena.copied_rows.Goals as goal

pub returns : goal.returns
returns c = rw (c.in_ok-copy.ensures, c.in_ok-copy-2.ensures, c.in_ok-copy-3.ensures) refl
