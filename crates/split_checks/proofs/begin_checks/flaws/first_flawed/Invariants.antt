use Rattle.std.proofs.Common.{◌≡◌, length}
use Rattle.split_checks.specs.begin_checks.Flaws.{first_showing}
use Rattle.split_checks.proofs.begin_checks.flaws.first_flawed.Given as goal

abbrev pub invariant-faces : goal.invariant-faces
invariant-faces l = first_showing l.flaw l.rest ≡ first_showing l.flaw l.faces

abbrev pub decreases-faces : goal.decreases-faces
decreases-faces l = length l.rest
