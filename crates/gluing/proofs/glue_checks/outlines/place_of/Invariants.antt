use Rattle.gluing.proofs.Prelude.{◌≡◌, ◌+◌, length, place_from}
use Rattle.gluing.proofs.glue_checks.outlines.place_of.Given as goal

abbrev pub invariant-points : goal.invariant-points
invariant-points l = record {
  counted : l.place + length l.rest ≡ length l.points;
  place : place_from l.place l.point l.rest ≡ place_from 0 l.point l.points;
}

abbrev pub decreases-points : goal.decreases-points
decreases-points l = length l.rest
