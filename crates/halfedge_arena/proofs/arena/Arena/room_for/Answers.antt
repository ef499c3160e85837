use Rattle.std.proofs.Common.{refl}
use Rattle.halfedge_arena.proofs.arena.Arena.room_for.Goals as goal

pub returns-then-has_room-clause-known : goal.returns-then-has_room-clause-known
returns-then-has_room-clause-known c = λ _. refl
