use Rattle.low_euler.proofs.Prelude.{◌≡◌, ◌-◌, ◌++◌, faces_of}
use Rattle.low_euler.proofs.Faces.{faces_above}
use Rattle.low_euler.proofs.moving.faces_of.Given as goal

abbrev pub invariant-faces : goal.invariant-faces
invariant-faces l = l.faces ++ faces_above l.arena.model l.solid l.last ≡ faces_of l.arena.model l.solid

abbrev pub decreases-faces : goal.decreases-faces
decreases-faces l = 4294967296 - l.last
