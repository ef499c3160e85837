use Rattle.split_sections.proofs.Prelude.{◌++◌, map, length, SameItems, code, rings_of, boundary, items_in, above, low_mates}
use Rattle.split_checks.specs.cut_places.Noted.{AreSides}
use Rattle.split_sections.proofs.section_edges.halves.push_mates.Given as goal

abbrev pub invariant-rings : goal.invariant-rings
invariant-rings l = record {
  sides : AreSides l.arena.model l.plane l.sides;
  mates : SameItems (map code l.mates.items ++ low_mates l.arena.model l.plane (items_in l.arena.model (above l.last (rings_of l.arena.model l.f))))
      (map code l.fn.mates.items ++ low_mates l.arena.model l.plane (boundary l.arena.model l.f));
}

abbrev pub decreases-rings : goal.decreases-rings
decreases-rings l = length (above l.last (rings_of l.arena.model l.f))
