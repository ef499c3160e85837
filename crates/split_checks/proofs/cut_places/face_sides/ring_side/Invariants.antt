use Rattle.split_checks.proofs.Prelude.{◌≡◌, ◌||◌, ◌∷◌, length, IsIn, cycle_of, Above, Below, to_come}
use Rattle.split_checks.specs.Common.{AreSides, some_start}
use Rattle.split_checks.proofs.cut_places.face_sides.ring_side.Given as goal

abbrev pub invariant-round : goal.invariant-round
invariant-round l = record {
  at_in : IsIn l.at (cycle_of l.arena.model l.first);
  sides : AreSides l.arena.model l.plane l.sides;
  up : some_start Above l.arena.model l.plane (l.at ∷ to_come l.first (cycle_of l.arena.model l.first) l.at) ≡ some_start Above l.arena.model l.plane (cycle_of l.arena.model l.first);
  down : l.below || some_start Below l.arena.model l.plane (l.at ∷ to_come l.first (cycle_of l.arena.model l.first) l.at) ≡ some_start Below l.arena.model l.plane (cycle_of l.arena.model l.first);
}

abbrev pub decreases-round : goal.decreases-round
decreases-round l = length (to_come l.first (cycle_of l.arena.model l.first) l.at)
