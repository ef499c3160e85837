use Rattle.std.proofs.Common.{rules, tests}
use Rattle.solid_measure.proofs.solid_counts.solids.refusal_of_solid.Goals as goal

pub returns-then-not-is_number : goal.returns-then-not-is_number
returns-then-not-is_number c = let out = c.if-not-is_number.ensures in search (tests, rules)

pub returns-then-not-has : goal.returns-then-not-has
returns-then-not-has c = search (tests, rules)

pub returns : goal.returns
returns c = search (tests, rules)
