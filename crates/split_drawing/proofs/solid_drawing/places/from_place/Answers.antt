use Rattle.split_drawing.proofs.Prelude.{◌∙◌, ap, sym, cond, code, On, after, start}
use Rattle.euler_conditions.proofs.Known.{in_a_loop}
use Rattle.split_checks.specs.cut_places.Sides.{same_sign}
use Rattle.split_checks.proofs.cut_places_laws.Signs.{sign_lies}
use Rattle.split_drawing.proofs.solid_drawing.places.from_place.Goals as goal

pub returns-then-same-clause-is : goal.returns-then-same-clause-is
returns-then-same-clause-is c =
    let M = c.args.arena.now.model in let h = code c.args.h in
    let on = c.same.ensures ∙ ap (λ s. same_sign s On) c.start_side.ensures.is ∙ sign_lies On c.args.plane (start M h) in
    sym (ap (λ b. cond b h (after M h)) (sym on ∙ c.if-same.true))

pub returns-else-same-clause-is : goal.returns-else-same-clause-is
returns-else-same-clause-is c =
    let M = c.args.arena.now.model in let h = code c.args.h in
    let on = c.same.ensures ∙ ap (λ s. same_sign s On) c.start_side.ensures.is ∙ sign_lies On c.args.plane (start M h) in
    c.next.ensures.in_loop (in_a_loop M c.requires.ready.sound h c.requires.there) ∙ sym (ap (λ b. cond b h (after M h)) (sym on ∙ c.if-same.false))
