use Rattle.euler_operators.proofs.Common.{coordinates, same_vector}
use Rattle.solid_measure.proofs.ShortNumbers.{can_add, crossed_short}
use Rattle.solid_measure.proofs.short.short_crossed.Goals as goal

pub minor_added-requires : goal.minor_added-requires
minor_added-requires c =
    let p = c.args.p in let q = c.args.q in let ps = coordinates p c.requires.p in let qs = coordinates q c.requires.q in
    can_add c.args.last.x p.y p.z q.y q.z c.requires.last.0 ps.1 ps.2 qs.1 qs.2

pub minor_added-requires-2 : goal.minor_added-requires-2
minor_added-requires-2 c =
    let p = c.args.p in let q = c.args.q in let ps = coordinates p c.requires.p in let qs = coordinates q c.requires.q in
    can_add c.args.last.y p.z p.x q.z q.x c.requires.last.1 ps.2 ps.0 qs.2 qs.0

pub minor_added-requires-3 : goal.minor_added-requires-3
minor_added-requires-3 c =
    let p = c.args.p in let q = c.args.q in let ps = coordinates p c.requires.p in let qs = coordinates q c.requires.q in
    can_add c.args.last.z p.x p.y q.x q.y c.requires.last.2 ps.0 ps.1 qs.0 qs.1

pub returns : goal.returns
returns c =
    let n = c.args.last in let p = c.args.p in let q = c.args.q in let ps = coordinates p c.requires.p in let qs = coordinates q c.requires.q in
    same_vector _ _ (crossed_short n.x p.y p.z q.y q.z _ c.requires.last.0 ps.1 ps.2 qs.1 qs.2 c.minor_added.ensures)
    (crossed_short n.y p.z p.x q.z q.x _ c.requires.last.1 ps.2 ps.0 qs.2 qs.0 c.minor_added-2.ensures)
    (crossed_short n.z p.x p.y q.x q.y _ c.requires.last.2 ps.0 ps.1 qs.0 qs.1 c.minor_added-3.ensures)
