use Rattle.std.proofs.Common.{refl, arith, ◌-ℤ◌, ◌*ℤ◌}
use Rattle.lattice.proofs.Magnitudes.{IsExactWithin, held, product_told, difference_told}
use Rattle.lattice.proofs.planes.cut_multiple.Goals as goal

to_told : (c : goal.After-from) → IsExactWithin 6000000000000000000000000000 (held c.from.result *ℤ held c.args.start) (c.args.to *ℤ c.args.start)
to_told c = product_told 6000000000000000000 _ c.args.to c.args.start c.from.result c.requires.to c.requires.start (record { sfits = c.from.type_inv }) c.ranges.start c.from.ensures refl (omega arith)

from_told : (c : goal.After-from-2) → IsExactWithin 6000000000000000000000000000 (held c.from-2.result *ℤ held c.args.end) (c.args.from *ℤ c.args.end)
from_told c = product_told 6000000000000000000 _ c.args.from c.args.end c.from-2.result c.requires.from c.requires.end (record { sfits = c.from-2.type_inv }) c.ranges.end c.from-2.ensures refl (omega arith)

told : (c : goal.After-from-2) →
    IsExactWithin 20000000000000000000000000000 (held (held c.from.result *ℤ held c.args.start) -ℤ held (held c.from-2.result *ℤ held c.args.end)) (c.args.to *ℤ c.args.start -ℤ c.args.from *ℤ c.args.end)
told c =
    let m = product_told 6000000000000000000 6000000000000000000000000000 c.args.to c.args.start c.from.result c.requires.to c.requires.start (record { sfits = c.from.type_inv }) c.ranges.start c.from.ensures refl (omega arith) in let n = from_told c in
    difference_told _ _ 20000000000000000000000000000 _ _ (c.args.to *ℤ c.args.start) (c.args.from *ℤ c.args.end) m.made n.made m.told_within n.told_within (omega arith) (omega arith)

pub overflow_mul-result : goal.overflow_mul-result
overflow_mul-result c = (to_told c).fits

pub overflow_mul-result-2 : goal.overflow_mul-result-2
overflow_mul-result-2 c = (from_told c).fits

pub overflow_sub-result : goal.overflow_sub-result
overflow_sub-result c = (told c).fits

pub returns-clause-is : goal.returns-clause-is
returns-clause-is c = (told c).kept

pub returns-clause-within : goal.returns-clause-within
returns-clause-within c = (told c).kept_within
