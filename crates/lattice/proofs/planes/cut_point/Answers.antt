use Rattle.std.proofs.Common.{◌∙◌}
use Rattle.lattice.proofs.Magnitudes.{coordinates}
use Rattle.lattice.proofs.Coordinates.{can_cut, coordinate_told, off_x, off_y, off_z, on_all}
use Rattle.lattice.proofs.planes.cut_point.Goals as goal

pub cut_coordinate-requires : goal.cut_coordinate-requires
cut_coordinate-requires c =
    let ps = coordinates c.args.p c.requires.p in let qs = coordinates c.args.q c.requires.q in
    can_cut c.cut_height-start.ensures c.cut_height-end.ensures c.args.p.x c.args.q.x ps.0 qs.0 c.requires.opposite

pub returns-in_err-cut_coordinate-clause-is : goal.returns-in_err-cut_coordinate-clause-is
returns-in_err-cut_coordinate-clause-is c =
    let s = c.args.plane in let p = c.args.p in let q = c.args.q in let ps = coordinates p c.requires.p in let qs = coordinates q c.requires.q in
    c.from_residual.ensures ∙ off_x s p q c.cut_coordinate.result (coordinate_told c.cut_height-start.ensures c.cut_height-end.ensures p.x q.x ps.0 qs.0 c.cut_coordinate.result c.cut_coordinate.ensures.is) c.in_err-cut_coordinate.was

pub cut_coordinate-requires-2 : goal.cut_coordinate-requires-2
cut_coordinate-requires-2 c =
    let ps = coordinates c.args.p c.requires.p in let qs = coordinates c.args.q c.requires.q in
    can_cut c.cut_height-start.ensures c.cut_height-end.ensures c.args.p.y c.args.q.y ps.1 qs.1 c.requires.opposite

pub returns-in_err-cut_coordinate-2-clause-is : goal.returns-in_err-cut_coordinate-2-clause-is
returns-in_err-cut_coordinate-2-clause-is c =
    let s = c.args.plane in let p = c.args.p in let q = c.args.q in let ps = coordinates p c.requires.p in let qs = coordinates q c.requires.q in
    c.from_residual-in_err-cut_coordinate-2.ensures ∙ off_y s p q c.cut_coordinate-2.result (coordinate_told c.cut_height-start.ensures c.cut_height-end.ensures p.y q.y ps.1 qs.1 c.cut_coordinate-2.result c.cut_coordinate-2.ensures.is) c.in_err-cut_coordinate-2.was

pub cut_coordinate-requires-3 : goal.cut_coordinate-requires-3
cut_coordinate-requires-3 c =
    let ps = coordinates c.args.p c.requires.p in let qs = coordinates c.args.q c.requires.q in
    can_cut c.cut_height-start.ensures c.cut_height-end.ensures c.args.p.z c.args.q.z ps.2 qs.2 c.requires.opposite

pub returns-in_err-cut_coordinate-3-clause-is : goal.returns-in_err-cut_coordinate-3-clause-is
returns-in_err-cut_coordinate-3-clause-is c =
    let s = c.args.plane in let p = c.args.p in let q = c.args.q in let ps = coordinates p c.requires.p in let qs = coordinates q c.requires.q in
    c.from_residual-in_err-cut_coordinate-3.ensures ∙ off_z s p q c.cut_coordinate-3.result (coordinate_told c.cut_height-start.ensures c.cut_height-end.ensures p.z q.z ps.2 qs.2 c.cut_coordinate-3.result c.cut_coordinate-3.ensures.is) c.in_err-cut_coordinate-3.was

pub returns-clause-is : goal.returns-clause-is
returns-clause-is c =
    let s = c.args.plane in let p = c.args.p in let q = c.args.q in let ps = coordinates p c.requires.p in let qs = coordinates q c.requires.q in
    let x = coordinate_told c.cut_height-start.ensures c.cut_height-end.ensures p.x q.x ps.0 qs.0 c.cut_coordinate.result c.cut_coordinate.ensures.is in
    let y = coordinate_told c.cut_height-start.ensures c.cut_height-end.ensures p.y q.y ps.1 qs.1 c.cut_coordinate-2.result c.cut_coordinate-2.ensures.is in
    let z = coordinate_told c.cut_height-start.ensures c.cut_height-end.ensures p.z q.z ps.2 qs.2 c.cut_coordinate-3.result c.cut_coordinate-3.ensures.is in
    on_all s p q c.cut_coordinate.result c.cut_coordinate-2.result c.cut_coordinate-3.result c.in_ok-cut_coordinate.field-0 c.in_ok-cut_coordinate-2.field-0 c.in_ok-cut_coordinate-3.field-0 x y z
    c.in_ok-cut_coordinate.was c.in_ok-cut_coordinate-2.was c.in_ok-cut_coordinate-3.was c.in_ok-cut_coordinate.ensures.range c.in_ok-cut_coordinate-2.ensures.range c.in_ok-cut_coordinate-3.ensures.range
