use Rattle.split_checks.proofs.Prelude.{◌≡◌, ◌++◌, map, length, code, first_such, is_crossed, all_pairs, codes, paired_face, AreTold, faces_in, AreFacesAlong}
use Rattle.split_checks.specs.Common.{AreSides}
use Rattle.split_checks.proofs.face_pairs.faces.pairs_of_faces.Given as goal

abbrev pub invariant-faces : goal.invariant-faces
invariant-faces l = record {
  sides : AreSides l.arena.model l.plane l.sides;
  whole : AreFacesAlong l.arena.model l.plane l.crossings.edges.now (faces_in l.rest);
  told : AreTold l.arena.model l.plane l.rest (map code l.left);
  first : first_such (is_crossed l.arena.model l.plane) (faces_in l.rest) ≡ first_such (is_crossed l.arena.model l.plane) (faces_in l.faces);
  found : l.found.items ++ map (paired_face l.arena.model l.plane) (faces_in l.rest) ≡ map (paired_face l.arena.model l.plane) (faces_in l.faces);
  made : map codes l.pairs.items ++ all_pairs l.arena.model l.plane (faces_in l.rest) ≡ all_pairs l.arena.model l.plane (faces_in l.faces);
}

abbrev pub decreases-faces : goal.decreases-faces
decreases-faces l = length l.rest
