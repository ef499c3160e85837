use Rattle.euler_conditions.proofs.Prelude.{◌≡◌, not, [], ◌∷◌, sym, ap, ◌∙◌, code, mate, conditions, first_false, numbers_in_range, face_at, has_rings, SameFace, HasRings}
use Rattle.euler_conditions.proofs.Tests.{refuses, all_pass, passes, fails, same_numbers, other_numbers}
use Rattle.euler_conditions.proofs.killing.check_kef.Goals as goal

pub returns-then-kept-killed : goal.returns-then-kept-killed
unfolding conditions first_false
returns-then-kept-killed c =
    let M = c.args.arena.now.model in
    let killed_is : c.face_at-killed.result ≡ face_at M (mate (code c.args.gone)) = c.face_at-killed.ensures.is ∙ ap (face_at M) c.mate.ensures.mate in
    c.refused-then-kept-killed.ensures ∙ ap (refuses SameFace) c.face_at-kept.ensures.is
    ∙ sym (all_pass (numbers_in_range (c.args.gone.edge ∷ [])) _ (sym c.in_range.ensures ∙ c.in_ok-in_range.was)
    ∙ passes _ _ _ (sym c.has.ensures.used ∙ c.if-not-has.false)
    ∙ fails _ _ _ (same_numbers _ _ (sym c.face_at-kept.ensures.is ∙ c.if-kept-killed.true ∙ killed_is)))

pub returns-then-has_rings : goal.returns-then-has_rings
unfolding conditions first_false
returns-then-has_rings c =
    let M = c.args.arena.now.model in
    let killed_is : c.face_at-killed.result ≡ face_at M (mate (code c.args.gone)) = c.face_at-killed.ensures.is ∙ ap (face_at M) c.mate.ensures.mate in
    c.refused-then-has_rings.ensures ∙ ap (refuses HasRings) killed_is
    ∙ sym (all_pass (numbers_in_range (c.args.gone.edge ∷ [])) _ (sym c.in_range.ensures ∙ c.in_ok-in_range.was)
    ∙ passes _ _ _ (sym c.has.ensures.used ∙ c.if-not-has.false)
    ∙ passes _ _ _ (other_numbers _ _ (λ e. c.if-kept-killed.false (c.face_at-kept.ensures.is ∙ e ∙ sym killed_is)))
    ∙ fails _ _ _ (ap not (ap (has_rings M) (sym killed_is) ∙ sym c.has_rings.ensures ∙ c.if-has_rings.true)))

pub returns : goal.returns
unfolding conditions first_false
returns c =
    let M = c.args.arena.now.model in
    let killed_is : c.face_at-killed.result ≡ face_at M (mate (code c.args.gone)) = c.face_at-killed.ensures.is ∙ ap (face_at M) c.mate.ensures.mate in
    sym (all_pass (numbers_in_range (c.args.gone.edge ∷ [])) _ (sym c.in_range.ensures ∙ c.in_ok-in_range.was)
    ∙ passes _ _ _ (sym c.has.ensures.used ∙ c.if-not-has.false)
    ∙ passes _ _ _ (other_numbers _ _ (λ e. c.if-kept-killed.false (c.face_at-kept.ensures.is ∙ e ∙ sym killed_is)))
    ∙ passes _ _ _ (ap not (ap (has_rings M) (sym killed_is) ∙ sym c.has_rings.ensures ∙ c.if-has_rings.false)))
