use Rattle.split_checks.proofs.Prelude.{◌∙◌, true, false, not, is_some, sym, ap, are_opposite, cuts_lattice, cut_between, Point, start, finish}
use Rattle.solid_measure.proofs.face_walks_laws.HalfCodes.{plus_there, code_plus}
use Rattle.split_checks.proofs.cut_places_laws.Cuts.{told_off, told_point}
use Rattle.split_checks.proofs.begin_checks.crossings.cut_edge.Goals as goal

pub start-requires-clause-there : goal.start-requires-clause-there
start-requires-clause-there c = plus_there c.args.arena.now.model c.args.e c.requires.crossing.there

pub finish-requires-clause-there : goal.finish-requires-clause-there
finish-requires-clause-there c = plus_there c.args.arena.now.model c.args.e c.requires.crossing.there

pub cut_point-requires-clause-opposite : goal.cut_point-requires-clause-opposite
cut_point-requires-clause-opposite c =
    let M = c.args.arena.now.model in let p = c.args.plane in
    (λ i. are_opposite p (c.start.ensures.point i) (c.finish.ensures.point i)) ∙ ap (λ h. are_opposite p (start M h) (finish M h)) (code_plus c.args.e) ∙ c.requires.crossing.crossing

pub returns-in-Some-clause-off : goal.returns-in-Some-clause-off
returns-in-Some-clause-off c =
    let M = c.args.arena.now.model in let p = c.args.plane in
    told_off p c.start.result c.finish.result c.cut_point.result false c.cut_point.ensures.is (ap is_some c.in-Some.is)
    ∙ (λ i. not (cuts_lattice p (c.start.ensures.point i) (c.finish.ensures.point i))) ∙ ap (λ h. not (cuts_lattice p (start M h) (finish M h))) (code_plus c.args.e)

pub returns-in-Some-clause-cut : goal.returns-in-Some-clause-cut
returns-in-Some-clause-cut c =
    let M = c.args.arena.now.model in let p = c.args.plane in
    ap (λ (q : Point). record { edge = c.args.e; point = q }) (told_point p c.start.result c.finish.result c.in-Some.point (sym c.in-Some.is ∙ c.cut_point.ensures.is)
    ∙ (λ i. cut_between p (c.start.ensures.point i) (c.finish.ensures.point i)) ∙ ap (λ h. cut_between p (start M h) (finish M h)) (code_plus c.args.e))

pub returns-in-None-clause-off : goal.returns-in-None-clause-off
returns-in-None-clause-off c =
    let M = c.args.arena.now.model in let p = c.args.plane in
    told_off p c.start.result c.finish.result c.cut_point.result true c.cut_point.ensures.is (ap is_some c.in-None.is)
    ∙ (λ i. not (cuts_lattice p (c.start.ensures.point i) (c.finish.ensures.point i))) ∙ ap (λ h. not (cuts_lattice p (start M h) (finish M h))) (code_plus c.args.e)
