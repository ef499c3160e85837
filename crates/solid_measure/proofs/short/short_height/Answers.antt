use Rattle.solid_measure.proofs.Prelude.{refl, arith, coordinate_held, coordinates}
use Rattle.solid_measure.proofs.ShortNumbers.{held_as, scaled_short, sum_fits, sum_short}
use Rattle.solid_measure.proofs.short.short_height.Goals as goal

pub short_scaled-requires-clause-x : goal.short_scaled-requires-clause-x
short_scaled-requires-clause-x c = coordinate_held c.args.p.x (coordinates c.args.p c.requires.p).0

pub short_scaled-requires-2-clause-x : goal.short_scaled-requires-2-clause-x
short_scaled-requires-2-clause-x c = coordinate_held c.args.p.y (coordinates c.args.p c.requires.p).1

pub short_scaled-requires-3-clause-x : goal.short_scaled-requires-3-clause-x
short_scaled-requires-3-clause-x c = coordinate_held c.args.p.z (coordinates c.args.p c.requires.p).2

pub overflow_add-result : goal.overflow_add-result
overflow_add-result c =
    let n = c.args.short in let p = c.args.p in let ps = coordinates p c.requires.p in let w = c.requires.short.slope in
    let x = scaled_short n.a p.x c.short_scaled.result w.0 ps.0 c.short_scaled.ensures.is in
    let y = scaled_short n.b p.y c.short_scaled-2.result w.1 ps.1 c.short_scaled-2.ensures.is in
    sum_fits _ _ 4000000000000000000 _ _ _ _ x y (omega arith) (omega arith)

pub overflow_add-result-2 : goal.overflow_add-result-2
overflow_add-result-2 c =
    let n = c.args.short in let p = c.args.p in let ps = coordinates p c.requires.p in let w = c.requires.short.slope in
    let x = scaled_short n.a p.x c.short_scaled.result w.0 ps.0 c.short_scaled.ensures.is in
    let y = scaled_short n.b p.y c.short_scaled-2.result w.1 ps.1 c.short_scaled-2.ensures.is in
    let z = scaled_short n.c p.z c.short_scaled-3.result w.2 ps.2 c.short_scaled-3.ensures.is in
    let two = sum_short _ _ 4000000000000000000 _ _ _ _ x y (omega arith) (omega arith) in
    sum_fits _ _ 6000000000000000000 _ _ _ _ two z (omega arith) (omega arith)

pub overflow_add-result-3 : goal.overflow_add-result-3
overflow_add-result-3 c =
    let n = c.args.short in let p = c.args.p in let ps = coordinates p c.requires.p in let w = c.requires.short.slope in
    let x = scaled_short n.a p.x c.short_scaled.result w.0 ps.0 c.short_scaled.ensures.is in
    let y = scaled_short n.b p.y c.short_scaled-2.result w.1 ps.1 c.short_scaled-2.ensures.is in
    let z = scaled_short n.c p.z c.short_scaled-3.result w.2 ps.2 c.short_scaled-3.ensures.is in
    let two = sum_short _ _ 4000000000000000000 _ _ _ _ x y (omega arith) (omega arith) in
    let three = sum_short _ _ 6000000000000000000 _ _ _ _ two z (omega arith) (omega arith) in
    let depth = held_as _ n.d n.d refl c.requires.short.depth (omega arith) in
    sum_fits _ _ 8000000000000000000 _ _ _ _ three depth (omega arith) (omega arith)

pub returns : goal.returns
returns c =
    let n = c.args.short in let p = c.args.p in let ps = coordinates p c.requires.p in let w = c.requires.short.slope in
    let x = scaled_short n.a p.x c.short_scaled.result w.0 ps.0 c.short_scaled.ensures.is in
    let y = scaled_short n.b p.y c.short_scaled-2.result w.1 ps.1 c.short_scaled-2.ensures.is in
    let z = scaled_short n.c p.z c.short_scaled-3.result w.2 ps.2 c.short_scaled-3.ensures.is in
    let two = sum_short _ _ 4000000000000000000 _ _ _ _ x y (omega arith) (omega arith) in
    let three = sum_short _ _ 6000000000000000000 _ _ _ _ two z (omega arith) (omega arith) in
    let depth = held_as _ n.d n.d refl c.requires.short.depth (omega arith) in
    (sum_short _ _ 8000000000000000000 _ _ _ _ three depth (omega arith) (omega arith)).is
