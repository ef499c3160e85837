use Rattle.split_checks.proofs.Prelude.{◌≡◌, ◌||◌, length, rings_of, Above, Below, vertices_in, above}
use Rattle.split_checks.specs.Common.{AreSides, reaches, some_lie}
use Rattle.split_checks.proofs.cut_places.face_sides.face_side.Given as goal

abbrev pub invariant-rings : goal.invariant-rings
invariant-rings l = record {
  sides : AreSides l.arena.model l.plane l.sides;
  up : some_lie Above l.arena.model l.plane (vertices_in l.arena.model (above l.last (rings_of l.arena.model l.f))) ≡ reaches Above l.arena.model l.plane l.f;
  down : l.below || some_lie Below l.arena.model l.plane (vertices_in l.arena.model (above l.last (rings_of l.arena.model l.f))) ≡ reaches Below l.arena.model l.plane l.f;
}

abbrev pub decreases-rings : goal.decreases-rings
decreases-rings l = length (above l.last (rings_of l.arena.model l.f))
