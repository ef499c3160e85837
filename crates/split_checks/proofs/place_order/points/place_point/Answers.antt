use Rattle.split_checks.proofs.Prelude.{◌∙◌, List, length, sym, ap, subst, arith, length-map, code, IsIn, On, edge_of-code, listed-from_in, start, cut_at, CutEdge}
use Rattle.split_checks.specs.Common.{same_sign}
use Rattle.split_checks.proofs.cut_places_laws.Searched.{found_at, none_missed}
use Rattle.split_checks.proofs.cut_places_laws.Signs.{sign_lies}
use Rattle.split_checks.proofs.place_order_laws.PlacePoints.{place_off, point_on, point_found}
use Rattle.split_checks.proofs.place_order.points.place_point.Goals as goal

pub returns-then-same-clause-is : goal.returns-then-same-clause-is
returns-then-same-clause-is c =
    let M = c.args.arena.now.model in let p = c.args.plane in let h = code c.args.h in
    let told = c.same.ensures ∙ ap (λ s. same_sign s On) c.start_side.ensures.is ∙ sign_lies On p (start M h) in
    c.start.ensures.point ∙ point_on M p h (sym told ∙ c.if-same.true)

pub returns-clause-is : goal.returns-clause-is
returns-clause-is c =
    let M = c.args.arena.now.model in let p = c.args.plane in let h = c.args.h in let es = c.args.crossings.edges.now in
    let told = c.same.ensures ∙ ap (λ s. same_sign s On) c.start_side.ensures.is ∙ sign_lies On p (start M (code h)) in
    let off = sym told ∙ c.if-same.false in
    let at = found_at es h.edge c.in-Ok.i c.requires.crossings.rising c.in-Ok.ensures.position in
    point_found M p es c.args.crossings.cut.now h c.in-Ok.i _ c.requires.crossings.points at.0 at.1 (place_off M p (code h) c.requires.place.place off) off

pub unreachable-requires : goal.unreachable-requires
unreachable-requires c =
    let M = c.args.arena.now.model in let p = c.args.plane in let h = c.args.h in let es = c.args.crossings.edges.now in
    let told = c.same.ensures ∙ ap (λ s. same_sign s On) c.start_side.ensures.is ∙ sign_lies On p (start M (code h)) in
    let across = place_off M p (code h) c.requires.place.place (sym told ∙ c.if-same.false) in
    none_missed es h.edge _ c.requires.crossings.rising (listed-from_in h.edge es (subst (λ e. IsIn e es) (edge_of-code h) (c.requires.place.crossing across))) c.in-Err.ensures.position

pub bounds-crossings-i : goal.bounds-crossings-i
bounds-crossings-i c =
    let es = c.args.crossings.edges.now in let at = found_at es c.args.h.edge c.in-Ok.i c.requires.crossings.rising c.in-Ok.ensures.position in
    omega (arith, at.0, ap (λ (ds : List CutEdge). length ds) c.requires.crossings.points, length-map es (cut_at c.args.arena.now.model c.args.plane))

pub offset_bounds-crossings-i : goal.offset_bounds-crossings-i
offset_bounds-crossings-i c =
    let es = c.args.crossings.edges.now in let at = found_at es c.args.h.edge c.in-Ok.i c.requires.crossings.rising c.in-Ok.ensures.position in
    omega (arith, at.0, ap (λ (ds : List CutEdge). length ds) c.requires.crossings.points, length-map es (cut_at c.args.arena.now.model c.args.plane), c.ranges.crossings)
