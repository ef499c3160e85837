use Rattle.solid_measure.proofs.Prelude.{sym, ◌∙◌, not, list_all, is_on, same_point, direction, origin, point_of, corners}
use Rattle.solid_measure.proofs.FlatFaces.{flat_as, flat_then, flat_else}
use Rattle.solid_measure.proofs.faces.is_flat.Goals as goal

pub returns-then-has_direction : goal.returns-then-has_direction
returns-then-has_direction c =
    let M = c.args.arena.now.model in let f = c.args.f in let p = c.plane_of-plane.result in
    flat_as M f p c.face_lies_on.result c.plane_of-plane.ensures.is
    (c.face_lies_on.ensures ∙ flat_then (not (same_point (direction p) origin)) (list_all (λ v. is_on p (point_of M v)) (corners M f)) (sym c.has_direction.ensures ∙ c.if-has_direction.true))

pub returns-else-has_direction : goal.returns-else-has_direction
returns-else-has_direction c =
    let M = c.args.arena.now.model in let f = c.args.f in let p = c.plane_of-plane.result in
    flat_as M f p c.has_direction.result c.plane_of-plane.ensures.is
    (c.has_direction.ensures ∙ flat_else (not (same_point (direction p) origin)) (list_all (λ v. is_on p (point_of M v)) (corners M f)) (sym c.has_direction.ensures ∙ c.if-has_direction.false))
