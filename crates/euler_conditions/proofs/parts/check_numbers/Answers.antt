use Rattle.euler_conditions.proofs.Prelude.{Err, sym, ap, ◌∙◌, err_from_is_err_and}
use Rattle.euler_conditions.proofs.Borders.{part_refused, are_faces}
use Rattle.euler_conditions.proofs.parts.check_numbers.Goals as goal

pub is_bad_part-requires-clause-faces : goal.is_bad_part-requires-clause-faces
is_bad_part-requires-clause-faces c = are_faces c.args.arena.now.model c.args.solid c.args.made c.args.faces.now (sym c.parts_known.ensures ∙ c.in_ok-parts_known.was)

pub returns-in_err-parts_known : goal.returns-in_err-parts_known
returns-in_err-parts_known c =
    let M = c.args.arena.now.model in let s = c.args.solid in let t = c.args.made in let fs = c.args.faces.now in
    let p = err_from_is_err_and c.from_residual.result c.from_residual.ensures.1 in
    p.1 ∙ ap Err p.2 ∙ sym (part_refused M s t fs _ (sym c.parts_known.ensures ∙ c.in_err-parts_known.was))
