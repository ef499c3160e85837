use Rattle.sweeps.proofs.Prelude.{◌≡◌, length, same_point}
use Rattle.std.specs.List.{list_any}
use Rattle.sweeps.proofs.laminas.is_among.Given as goal

abbrev pub invariant-others : goal.invariant-others
invariant-others l = list_any (same_point l.point) l.points ≡ list_any (same_point l.point) l.rest

abbrev pub decreases-others : goal.decreases-others
decreases-others l = length l.rest
