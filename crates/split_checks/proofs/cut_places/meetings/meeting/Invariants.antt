use Rattle.split_checks.proofs.Prelude.{length, faces_of, above, AreSides}
use Rattle.split_checks.proofs.cut_places_laws.Met.{FacesWalked}
use Rattle.split_checks.proofs.cut_places.meetings.meeting.Given as goal

abbrev pub invariant-faces : goal.invariant-faces
invariant-faces l = record {
  sides : AreSides l.arena.model l.plane l.sides;
  walked : FacesWalked l.arena.model l.plane l.met (above l.last (faces_of l.arena.model l.s)) (faces_of l.arena.model l.s);
}

abbrev pub decreases-faces : goal.decreases-faces
decreases-faces l = length (above l.last (faces_of l.arena.model l.s))
