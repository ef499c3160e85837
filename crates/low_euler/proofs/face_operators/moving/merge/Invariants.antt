use Rattle.low_euler.proofs.Prelude.{◌≡◌, length, true, false, Solid, faces_of, has_room, is_face_of, Merge, after}
use Rattle.euler_operators.specs.Table as table
use Rattle.low_euler.proofs.face_operators.moving.merge.Given as goal

abbrev pub invariant-faces : goal.invariant-faces
invariant-faces l = record {
  same : after l.arena (Merge l.kept l.gone) ≡ after l.initial.arena (Merge l.kept l.gone);
  zero : is_face_of l.arena.model l.gone 0 ≡ false;
  room : has_room l.arena Solid l.kept ≡ true;
  there : table.has l.arena.model.solids l.gone ≡ true;
}

abbrev pub decreases-faces : goal.decreases-faces
decreases-faces l = length (faces_of l.arena.model l.gone)
