use Rattle.std.proofs.Common.{◌≡◌, [], ◌∷◌, pos, get_or, ap, ◌∙◌, arith, ◌+ℤ◌, ◌-ℤ◌, ◌*ℤ◌}
use Rattle.lattice.proofs.Magnitudes.{coordinates, are_held, minor_of, sum_told}
use Rattle.lattice.proofs.points.cross_add.Goals as goal

pub minor-requires : goal.minor-requires
minor-requires c =
    let p = c.args.p in let q = c.args.q in let ps = coordinates p c.requires.p in let qs = coordinates q c.requires.q in
    are_held p.y p.z q.y q.z ps.1 ps.2 qs.1 qs.2

pub minor-requires-2 : goal.minor-requires-2
minor-requires-2 c =
    let p = c.args.p in let q = c.args.q in let ps = coordinates p c.requires.p in let qs = coordinates q c.requires.q in
    are_held p.z p.x q.z q.x ps.2 ps.0 qs.2 qs.0

pub minor-requires-3 : goal.minor-requires-3
minor-requires-3 c =
    let p = c.args.p in let q = c.args.q in let ps = coordinates p c.requires.p in let qs = coordinates q c.requires.q in
    are_held p.x p.y q.x q.y ps.0 ps.1 qs.0 qs.1

pub overflow_add-result : goal.overflow_add-result
overflow_add-result c = (sum_told _ _ 20000000000000000000000000 (get_or c.args.vector 0 (pos 0)) c.minor.result c.requires.vector.0 c.minor.ensures.within (omega arith) (omega arith)).fits

pub overflow_add-result-2 : goal.overflow_add-result-2
overflow_add-result-2 c = (sum_told _ _ 20000000000000000000000000 (get_or c.args.vector 1 (pos 0)) c.minor-2.result c.requires.vector.1 c.minor-2.ensures.within (omega arith) (omega arith)).fits

pub overflow_add-result-3 : goal.overflow_add-result-3
overflow_add-result-3 c = (sum_told _ _ 20000000000000000000000000 (get_or c.args.vector 2 (pos 0)) c.minor-3.result c.requires.vector.2 c.minor-3.ensures.within (omega arith) (omega arith)).fits

pub returns : goal.returns
returns c =
    let n = c.args.vector in let p = c.args.p in let q = c.args.q in let ps = coordinates p c.requires.p in let qs = coordinates q c.requires.q in
    let x : c.minor.result ≡ p.y *ℤ q.z -ℤ p.z *ℤ q.y = minor_of _ p.y p.z q.y q.z ps.1 ps.2 qs.1 qs.2 c.minor.ensures.is in
    let y : c.minor-2.result ≡ p.z *ℤ q.x -ℤ p.x *ℤ q.z = minor_of _ p.z p.x q.z q.x ps.2 ps.0 qs.2 qs.0 c.minor-2.ensures.is in
    let z : c.minor-3.result ≡ p.x *ℤ q.y -ℤ p.y *ℤ q.x = minor_of _ p.x p.y q.x q.y ps.0 ps.1 qs.0 qs.1 c.minor-3.ensures.is in
    λ i. (((sum_told _ _ 20000000000000000000000000 (get_or n 0 (pos 0)) c.minor.result c.requires.vector.0 c.minor.ensures.within (omega arith) (omega arith)).kept ∙ ap (λ m. get_or n 0 (pos 0) +ℤ m) x) i)
    ∷ (((sum_told _ _ 20000000000000000000000000 (get_or n 1 (pos 0)) c.minor-2.result c.requires.vector.1 c.minor-2.ensures.within (omega arith) (omega arith)).kept ∙ ap (λ m. get_or n 1 (pos 0) +ℤ m) y) i)
    ∷ (((sum_told _ _ 20000000000000000000000000 (get_or n 2 (pos 0)) c.minor-3.result c.requires.vector.2 c.minor-3.ensures.within (omega arith) (omega arith)).kept ∙ ap (λ m. get_or n 2 (pos 0) +ℤ m) z) i)
    ∷ []
