-- The laws of the sides on which a split's loops and faces lie, over every sound model in which its first conditions hold.
use Rattle.std.specs.Prelude.{ℕ}
use Rattle.euler_operators.specs.Common.{Plane, Model, Sound}
use Rattle.shapes.specs.Common.{with_crossings, straddling_pairs}
use Rattle.split_drawing_laws.specs.crossings.Laws.{CanBegin}
use Rattle.split_drawing_laws.specs.loop_sides.Laws.{TakeSides}
use Rattle.split_drawing_laws.specs.half_sides.HalfSides.{side_of, is_own}

-- after the edges that cross the plane are cut, each half-edge has a side, which changes only at cut places
abbrev pub HalfEdgesTakeSides : Type 0
HalfEdgesTakeSides = (M : Model) (s : ℕ) (p : Plane) (t : ℕ) → Sound M → CanBegin M s p t → TakeSides p (with_crossings M s p) (straddling_pairs M s p) (side_of M s p) (is_own M s p)
