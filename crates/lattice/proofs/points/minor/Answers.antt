use Rattle.lattice.proofs.Magnitudes.{short_product_fits, minor_fits, minor_is, minor_kept}
use Rattle.lattice.proofs.points.minor.Goals as goal

pub overflow_mul-number : goal.overflow_mul-number
overflow_mul-number c = short_product_fits c.args.a c.args.d c.requires.a c.requires.d

pub overflow_mul-number-2 : goal.overflow_mul-number-2
overflow_mul-number-2 c = short_product_fits c.args.b c.args.c c.requires.b c.requires.c

pub overflow_sub-number : goal.overflow_sub-number
overflow_sub-number c = minor_fits c.args.a c.args.b c.args.c c.args.d c.requires.a c.requires.b c.requires.c c.requires.d

pub returns-clause-is : goal.returns-clause-is
returns-clause-is c = minor_is c.args.a c.args.b c.args.c c.args.d c.requires.a c.requires.b c.requires.c c.requires.d c.from.result c.from.ensures

pub returns-clause-within : goal.returns-clause-within
returns-clause-within c = minor_kept c.args.a c.args.b c.args.c c.args.d c.requires.a c.requires.b c.requires.c c.requires.d c.from.result c.from.ensures
