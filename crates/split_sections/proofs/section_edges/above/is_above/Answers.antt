use Rattle.split_sections.proofs.Prelude.{◌≡◌, ◌∙◌, ◌||◌, ◌&&◌, Bool, true, false, not, pos, sym, int_lt, Below, On, Above, direction, dot, face_is_above, reaches_above, reaches_below, side_reached, told_up, told_down}
use Rattle.shapes.specs.Common.{normal}
use Rattle.split_sections.proofs.section_edges.above.is_above.Goals as goal

-- what the side tells that a face reaches
told_below : (a b n : Bool) → Below ≡ side_reached a b → false ≡ a || (not b && n)
told_below a b n e = let up = told_up Below a b e in λ i. up i || (not (told_down Below a b e (sym up) i) && n)

told_on : (a b m n : Bool) → On ≡ side_reached a b → m ≡ n → not m ≡ a || (not b && not n)
told_on a b m n e same = let up = told_up On a b e in λ i. up i || (not (told_down On a b e (sym up) i) && not (same i))

told_above : (a b n : Bool) → Above ≡ side_reached a b → true ≡ a || (not b && n)
told_above a b n e = λ i. told_up Above a b e i || (not b && n)

pub returns-in-Below-clause-is : goal.returns-in-Below-clause-is
unfolding face_is_above
returns-in-Below-clause-is c =
    let M = c.args.arena.now.model in let p = c.args.plane in let f = c.args.f in
    told_below (reaches_above M p f) (reaches_below M p f) (not (int_lt (pos 0) (dot (normal M f) (direction p)))) (sym c.in-Below.is ∙ c.face_side.ensures.is)

pub returns-in-On-clause-is : goal.returns-in-On-clause-is
unfolding face_is_above
returns-in-On-clause-is c =
    let M = c.args.arena.now.model in let p = c.args.plane in let f = c.args.f in
    told_on (reaches_above M p f) (reaches_below M p f) c.points_along.result (int_lt (pos 0) (dot (normal M f) (direction p))) (sym c.in-On.is ∙ c.face_side.ensures.is) c.points_along.ensures

pub returns-in-Above-clause-is : goal.returns-in-Above-clause-is
unfolding face_is_above
returns-in-Above-clause-is c =
    let M = c.args.arena.now.model in let p = c.args.plane in let f = c.args.f in
    told_above (reaches_above M p f) (reaches_below M p f) (not (int_lt (pos 0) (dot (normal M f) (direction p)))) (sym c.in-Above.is ∙ c.face_side.ensures.is)
