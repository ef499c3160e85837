use Rattle.euler_conditions.proofs.Prelude.{◌∙◌, sym, ap, [], ◌∷◌, Err, nat_eq, err_from_is_err_and, conditions, first_false, ring_and_face, never, face_of, SameFace}
use Rattle.euler_conditions.proofs.Orders.{part_refuses}
use Rattle.euler_conditions.proofs.moving.check_ring_in.Goals as goal

pub returns-in_err-ring_and_face : goal.returns-in_err-ring_and_face
unfolding conditions first_false
returns-in_err-ring_and_face c =
    let M = c.args.arena.now.model in let p = err_from_is_err_and c.from_residual.result c.from_residual.ensures.1 in
    p.1 ∙ ap Err p.2 ∙ sym (part_refuses (ring_and_face M c.args.ring c.args.face) (never (nat_eq (face_of M c.args.ring) c.args.face) SameFace c.args.face ∷ []) _ (sym c.ring_and_face.ensures ∙ c.in_err-ring_and_face.was))
