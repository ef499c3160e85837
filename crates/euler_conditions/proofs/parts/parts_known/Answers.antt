use Rattle.euler_conditions.proofs.Prelude.{◌≡◌, not, Err, sym, ap, ◌∙◌, err_from_is_err_and, first_refusal, verdict, faces_known, faces_in, parts_known}
use Rattle.euler_conditions.proofs.Orders.{part_refuses, part_holds}
use Rattle.euler_conditions.proofs.Tests.{passes, fails}
use Rattle.euler_conditions.proofs.Borders.{solids_and_faces, list_refused, numbers_held, known_there}
use Rattle.euler_conditions.proofs.parts.parts_known.Goals as goal
use Rattle.euler_conditions.proofs.parts.parts_known.Goals.{After-has}

pub returns-in_err-list_in_range : goal.returns-in_err-list_in_range
returns-in_err-list_in_range c =
    let p = err_from_is_err_and c.from_residual-in_err-list_in_range.result c.from_residual-in_err-list_in_range.ensures.1 in
    p.1 ∙ ap Err p.2 ∙ sym (list_refused c.args.arena.now.model c.args.solid c.args.made c.args.faces.now
    (sym c.in_range.ensures ∙ c.in_ok-in_range.was) _ (sym c.list_in_range.ensures ∙ c.in_err-list_in_range.was))

-- the numbers are in range
numbers : (c : After-has) → let M = c.args.arena.now.model in
    verdict (first_refusal (parts_known M c.args.solid c.args.made c.args.faces.now)) ≡ verdict (first_refusal (solids_and_faces M c.args.solid c.args.made c.args.faces.now))
numbers c = numbers_held c.args.arena.now.model c.args.solid c.args.made c.args.faces.now (sym c.in_range.ensures ∙ c.in_ok-in_range.was)
    (sym c.list_in_range.ensures ∙ c.in_ok-list_in_range.was)

pub returns-then-not-has : goal.returns-then-not-has
returns-then-not-has c = c.refused.ensures ∙ sym (numbers (goal.at.returns-then-not-has c).After-has ∙ fails _ _ _ (sym c.has.ensures.used ∙ c.if-not-has.true))

pub returns-then-has : goal.returns-then-has
returns-then-has c =
    c.refused-then-has.ensures ∙ sym (numbers (goal.at.returns-then-has c).After-has
    ∙ passes _ _ _ (sym c.has.ensures.used ∙ c.if-not-has.false)
    ∙ fails _ _ _ (ap not (sym c.has-2.ensures.used ∙ c.if-has.true)))

pub returns-in_err-faces_known : goal.returns-in_err-faces_known
returns-in_err-faces_known c =
    let p = err_from_is_err_and c.from_residual-in_err-faces_known.result c.from_residual-in_err-faces_known.ensures.1 in
    p.1 ∙ ap Err p.2 ∙ sym (numbers (goal.at.returns-in_err-faces_known c).After-has
    ∙ passes _ _ _ (sym c.has.ensures.used ∙ c.if-not-has.false)
    ∙ passes _ _ _ (ap not (sym c.has-2.ensures.used ∙ c.if-has.false))
    ∙ part_refuses (faces_known c.args.arena.now.model c.args.faces.now) _ _ (sym c.faces_known.ensures ∙ c.in_err-faces_known.was))

pub faces_in-requires : goal.faces_in-requires
faces_in-requires c = λ f l. known_there c.args.arena.now.model c.args.faces.now (sym c.faces_known.ensures ∙ c.in_ok-faces_known.was) f l

pub returns : goal.returns
returns c =
    let M = c.args.arena.now.model in let fs = c.args.faces.now in
    c.faces_in.ensures ∙ sym (numbers (goal.at.returns c).After-has
    ∙ passes _ _ _ (sym c.has.ensures.used ∙ c.if-not-has.false)
    ∙ passes _ _ _ (ap not (sym c.has-2.ensures.used ∙ c.if-has.false))
    ∙ part_holds (faces_known M fs) (faces_in M c.args.solid fs) (sym c.faces_known.ensures ∙ c.in_ok-faces_known.was))
