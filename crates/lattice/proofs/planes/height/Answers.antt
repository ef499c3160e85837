use Rattle.std.proofs.Common.{◌∙◌, arith, ◌+ℤ◌, ◌*ℤ◌}
use Rattle.lattice.proofs.Magnitudes.{fits, held_is, sum_told}
use Rattle.lattice.proofs.planes.height.Goals as goal

pub overflow_add-result : goal.overflow_add-result
overflow_add-result c = (sum_told _ _ 130000000000000000000000000000000000 c.dot.result c.args.plane.d c.dot.ensures.within c.requires.plane.1 (omega arith) (omega arith)).fits

pub returns : goal.returns
returns c =
    let s = c.args.plane in let p = c.args.p in let w = c.requires.plane.0 in
    let told = sum_told _ _ 130000000000000000000000000000000000 c.dot.result s.d c.dot.ensures.within c.requires.plane.1 (omega arith) (omega arith) in
    let a = held_is s.a (fits _ _ w.0 (omega arith)) in let b = held_is s.b (fits _ _ w.1 (omega arith)) in let e = held_is s.c (fits _ _ w.2 (omega arith)) in
    told.kept ∙ (λ i. (c.dot.ensures.is ∙ (λ j. a j *ℤ p.x +ℤ b j *ℤ p.y +ℤ e j *ℤ p.z)) i +ℤ s.d)
