use Rattle.solid_measure.proofs.Prelude.{◌≡◌, ◌≤◌, ◌-◌, read}
use Rattle.solid_measure.proofs.Boundaries.{area_to}
use Rattle.solid_measure.proofs.faces.rings_added.Given as goal

abbrev pub invariant-rings : goal.invariant-rings
invariant-rings l = record {
  most : l.last ≤ 1000000;
  summed : read l.sum ≡ area_to l.arena.model l.f l.last;
}

abbrev pub decreases-rings : goal.decreases-rings
decreases-rings l = 1000000 - l.last
