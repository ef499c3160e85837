use Rattle.std.proofs.Common.{pos, get_or, ◌∙◌, arith, ◌+ℤ◌}
use Rattle.lattice.proofs.Magnitudes.{coordinates, fits, held_within, times_of, made_of, sum_told}
use Rattle.lattice.proofs.points.dot.Goals as goal

pub scaled-requires-clause-a : goal.scaled-requires-clause-a
scaled-requires-clause-a c = held_within _ (get_or c.args.vector 0 (pos 0)) c.requires.vector.0 (omega arith)

pub scaled-requires-2-clause-a : goal.scaled-requires-2-clause-a
scaled-requires-2-clause-a c = held_within _ (get_or c.args.vector 1 (pos 0)) c.requires.vector.1 (omega arith)

pub scaled-requires-3-clause-a : goal.scaled-requires-3-clause-a
scaled-requires-3-clause-a c = held_within _ (get_or c.args.vector 2 (pos 0)) c.requires.vector.2 (omega arith)

pub overflow_add-first : goal.overflow_add-first
overflow_add-first c = (sum_told _ _ 20000000000000000000000000000000000 c.scaled.result c.scaled-2.result c.scaled.ensures.within c.scaled-2.ensures.within (omega arith) (omega arith)).fits

pub overflow_add-result : goal.overflow_add-result
overflow_add-result c =
    let first = sum_told _ _ 20000000000000000000000000000000000 c.scaled.result c.scaled-2.result c.scaled.ensures.within c.scaled-2.ensures.within (omega arith) (omega arith) in
    (sum_told _ _ 30000000000000000000000000000000000 (made_of c.scaled.result c.scaled-2.result) c.scaled-3.result first.made_within c.scaled-3.ensures.within (omega arith) (omega arith)).fits

pub returns-clause-is : goal.returns-clause-is
returns-clause-is c =
    let n = c.args.vector in let p = c.args.p in let ps = coordinates p c.requires.p in
    let first = sum_told _ _ 20000000000000000000000000000000000 c.scaled.result c.scaled-2.result c.scaled.ensures.within c.scaled-2.ensures.within (omega arith) (omega arith) in
    let x = times_of c.scaled.result (get_or n 0 (pos 0)) p.x (fits _ _ c.requires.vector.0 (omega arith)) ps.0 c.scaled.ensures.is in
    let y = times_of c.scaled-2.result (get_or n 1 (pos 0)) p.y (fits _ _ c.requires.vector.1 (omega arith)) ps.1 c.scaled-2.ensures.is in
    let z = times_of c.scaled-3.result (get_or n 2 (pos 0)) p.z (fits _ _ c.requires.vector.2 (omega arith)) ps.2 c.scaled-3.ensures.is in
    (sum_told _ _ 30000000000000000000000000000000000 (made_of c.scaled.result c.scaled-2.result) c.scaled-3.result first.made_within c.scaled-3.ensures.within (omega arith) (omega arith)).kept
    ∙ (λ i. (first.made ∙ (λ j. x j +ℤ y j)) i +ℤ z i)

pub returns-clause-within : goal.returns-clause-within
returns-clause-within c =
    let first = sum_told _ _ 20000000000000000000000000000000000 c.scaled.result c.scaled-2.result c.scaled.ensures.within c.scaled-2.ensures.within (omega arith) (omega arith) in
    (sum_told _ _ 30000000000000000000000000000000000 (made_of c.scaled.result c.scaled-2.result) c.scaled-3.result first.made_within c.scaled-3.ensures.within (omega arith) (omega arith)).kept_within
