use Rattle.lattice.proofs.Prelude.{refl, arith, ◌*ℤ◌, normal_limit}
use Rattle.lattice.proofs.Magnitudes.{IsExactWithin, held, scaled_told}
use Rattle.lattice.proofs.points.scaled.Goals as goal

told : (c : goal.After-from) → IsExactWithin 10000000000000000000000000000000000 (held c.args.a *ℤ held c.from.result) (c.args.a *ℤ c.args.x)
told c = scaled_told normal_limit _ c.args.a c.args.x c.from.result c.requires.a c.requires.x c.ranges.a (record { sfits = c.from.type_inv }) c.from.ensures refl (omega arith)

pub overflow_mul-result : goal.overflow_mul-result
overflow_mul-result c = (told c).fits

pub returns-clause-is : goal.returns-clause-is
returns-clause-is c = (told c).kept

pub returns-clause-within : goal.returns-clause-within
returns-clause-within c = (told c).kept_within
