-- Solids without lone loops.
use Rattle.std.specs.Prelude.{◌≢◌, ℕ}
use Rattle.euler_operators.specs.Common.{Model, face_of, solid_of, IsLoneAt}

-- no loop of solid s is lone
abbrev pub NoLoopIsLone : Model → ℕ → Type 0
NoLoopIsLone M s = (l v : ℕ) → IsLoneAt M l v → solid_of M (face_of M l) ≢ s
