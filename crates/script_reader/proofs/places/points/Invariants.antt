use Rattle.script_reader.proofs.Prelude.{◌≡◌, ◌≤◌, ◌-◌, length, words, points_of}
use Rattle.script_reader.proofs.PointLaws.{with_front}
use Rattle.script_reader.proofs.places.points.Given as goal

abbrev pub invariant-more : goal.invariant-more
invariant-more l = (with_front l.corners (points_of (64 - length l.corners) l.words) ≡ points_of 64 (words l.line)) × (length l.corners ≤ 64)

abbrev pub decreases-more : goal.decreases-more
decreases-more l = 64 - length l.corners
