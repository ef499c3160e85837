use Rattle.split_sections.proofs.Prelude.{◌≡◌, ◌++◌, map, length, filter, SameItems, code, faces_of, above, face_is_above, faces_above, mates_met}
use Rattle.split_checks.specs.cut_places.Noted.{AreSides}
use Rattle.split_sections.proofs.section_edges.above.look_at_faces.Given as goal

abbrev pub invariant-faces : goal.invariant-faces
invariant-faces l = record {
  sides : AreSides l.arena.model l.plane l.sides;
  found : l.above.items ++ filter (face_is_above l.arena.model l.plane) (above l.last (faces_of l.arena.model l.s)) ≡ faces_above l.arena.model l.plane l.s;
  mates : SameItems (map code l.mates.items ++ mates_met l.arena.model l.plane (filter (face_is_above l.arena.model l.plane) (above l.last (faces_of l.arena.model l.s))))
      (mates_met l.arena.model l.plane (faces_above l.arena.model l.plane l.s));
}

abbrev pub decreases-faces : goal.decreases-faces
decreases-faces l = length (above l.last (faces_of l.arena.model l.s))
