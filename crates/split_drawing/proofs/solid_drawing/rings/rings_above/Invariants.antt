use Rattle.split_drawing.proofs.Prelude.{◌≡◌, ◌++◌, length, filter, rings_of, content, vertices_on, some_above, rings_above, above, AreSides}
use Rattle.split_drawing.proofs.solid_drawing.rings.rings_above.Given as goal

abbrev pub invariant-rings : goal.invariant-rings
invariant-rings l = record {
  sides : AreSides l.arena.model l.plane l.sides;
  made : l.rings.items ++ filter (λ q. some_above l.arena.model l.plane (vertices_on l.arena.model (content l.arena.model q))) (above l.last (rings_of l.arena.model l.f)) ≡ rings_above l.arena.model l.plane l.f;
}

abbrev pub decreases-rings : goal.decreases-rings
decreases-rings l = length (above l.last (rings_of l.arena.model l.f))
