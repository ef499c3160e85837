use Rattle.lattice.proofs.Cuts.{quotient_short, quotient_coordinate, whole_told}
use Rattle.lattice.proofs.planes.whole_quotient.Goals as goal

pub overflow_cast-result : goal.overflow_cast-result
overflow_cast-result c = quotient_short c.args.number c.args.divisor c.ranges.number c.ranges.divisor c.requires.range

pub returns-then-number-divisor-eq0-clause-is : goal.returns-then-number-divisor-eq0-clause-is
returns-then-number-divisor-eq0-clause-is c = whole_told c.args.number c.args.divisor c.ranges.number c.ranges.divisor c.requires.range c.if-number-divisor-eq0.true

pub returns-then-number-divisor-eq0-clause-range : goal.returns-then-number-divisor-eq0-clause-range
returns-then-number-divisor-eq0-clause-range c = quotient_coordinate c.args.number c.args.divisor c.ranges.number c.ranges.divisor c.requires.range
