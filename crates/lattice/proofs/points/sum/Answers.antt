use Rattle.lattice.proofs.Prelude.{rules, FitsSigned, moved}
use mir.Syntax.{w64}
use Rattle.lattice.proofs.Magnitudes.{coordinates, coordinate_sum, coordinate_sum_fits}
use Rattle.lattice.proofs.points.sum.Goals as goal

pub overflow_add-result : goal.overflow_add-result
overflow_add-result c =
    let p = c.args.p in let d = c.args.shift in let a : FitsSigned w64 p.x = search rules in let b : FitsSigned w64 d.x = search rules in
    coordinate_sum_fits p.x d.x a b (coordinates (moved p d) c.requires).0

pub overflow_add-result-2 : goal.overflow_add-result-2
overflow_add-result-2 c =
    let p = c.args.p in let d = c.args.shift in let a : FitsSigned w64 p.y = search rules in let b : FitsSigned w64 d.y = search rules in
    coordinate_sum_fits p.y d.y a b (coordinates (moved p d) c.requires).1

pub overflow_add-result-3 : goal.overflow_add-result-3
overflow_add-result-3 c =
    let p = c.args.p in let d = c.args.shift in let a : FitsSigned w64 p.z = search rules in let b : FitsSigned w64 d.z = search rules in
    coordinate_sum_fits p.z d.z a b (coordinates (moved p d) c.requires).2

pub returns : goal.returns
returns c =
    let p = c.args.p in let d = c.args.shift in let ks = coordinates (moved p d) c.requires in
    let a : FitsSigned w64 p.x = search rules in let b : FitsSigned w64 p.y = search rules in let e : FitsSigned w64 p.z = search rules in
    let f : FitsSigned w64 d.x = search rules in let g : FitsSigned w64 d.y = search rules in let h : FitsSigned w64 d.z = search rules in
    λ i. record { x = coordinate_sum p.x d.x a f ks.0 i; y = coordinate_sum p.y d.y b g ks.1 i; z = coordinate_sum p.z d.z e h ks.2 i }
