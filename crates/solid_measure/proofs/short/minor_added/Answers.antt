use Rattle.solid_measure.proofs.Prelude.{refl, arith}
use Rattle.solid_measure.proofs.ShortNumbers.{held_as, minor_short, sum_fits, sum_short}
use Rattle.solid_measure.proofs.short.minor_added.Goals as goal

pub overflow_add-result : goal.overflow_add-result
overflow_add-result c =
    let n = held_as 6000000000000000000 c.args.number c.args.number refl c.requires.number (omega arith) in
    let m = minor_short c.args.a c.args.b c.args.c c.args.d c.requires.a c.requires.b c.requires.c c.requires.d in
    sum_fits _ _ 8000000000000000000 _ _ _ _ n m (omega arith) (omega arith)

pub returns : goal.returns
returns c =
    let n = held_as 6000000000000000000 c.args.number c.args.number refl c.requires.number (omega arith) in
    let m = minor_short c.args.a c.args.b c.args.c c.args.d c.requires.a c.requires.b c.requires.c c.requires.d in
    (sum_short _ _ 8000000000000000000 _ _ _ _ n m (omega arith) (omega arith)).is
