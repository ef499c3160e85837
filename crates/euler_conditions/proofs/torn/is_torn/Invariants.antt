use Rattle.euler_conditions.proofs.Prelude.{ℕ, ◌<◌, get_or, FaceStaysIn}
use Rattle.euler_conditions.proofs.torn.is_torn.Given as goal

abbrev pub invariant-faces : goal.invariant-faces
invariant-faces l = (k : ℕ) → k < l.i → FaceStaysIn l.arena.model l.listed_faces (get_or l.listed_faces k 0)
