use Rattle.std.proofs.Common.{rules, tests}
use Rattle.gluing.proofs.glue_checks.checks.check_faces.Goals as goal

pub returns-then-has_rings : goal.returns-then-has_rings
returns-then-has_rings c = search (tests, rules)

pub returns-then-has_rings-2 : goal.returns-then-has_rings-2
returns-then-has_rings-2 c = search (tests, rules)

pub returns : goal.returns
returns c = search (tests, rules)
