use Rattle.std.proofs.Common.{◌≡◌, ◌≤◌, ◌-◌}
use Rattle.solid_measure.proofs.Volumes.{volume_to}
use Rattle.solid_measure.proofs.measures.volume_of.Given as goal

abbrev pub invariant-faces : goal.invariant-faces
invariant-faces l = record {
  most : l.last ≤ 1000000;
  summed : l.sum ≡ volume_to l.arena.model l.s l.last;
}

abbrev pub decreases-faces : goal.decreases-faces
decreases-faces l = 1000000 - l.last
