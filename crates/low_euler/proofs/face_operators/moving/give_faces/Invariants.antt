use Rattle.low_euler.proofs.Prelude.{◌≡◌, take, moved}
use Rattle.low_euler.proofs.face_operators.moving.give_faces.Given as goal

abbrev pub invariant-faces : goal.invariant-faces
invariant-faces l = l.arena ≡ moved l.initial.arena (take l.i l.faces) l.s
