use Rattle.plane_split.proofs.Prelude.{◌≡◌, [], false, nat_eq, Ok, sym, ap, subst, ◌∙◌, arith, nat_tests, verdict, split_made, after_steps, steps_after, steps_make, drawing_of, IsSection}
use Rattle.shapes.proofs.split.Facts.{split_begins}
use Rattle.split_drawing.specs.Noted.{AreSides}
use Rattle.plane_split.proofs.Conditions.{section_decides, stuck_decides}
use Rattle.plane_split.proofs.Parted.{split_ops_are}
use Rattle.plane_split.proofs.steps.take_steps.Goals as goal

pub find_section-requires-clause-plane : goal.find_section-requires-clause-plane
find_section-requires-clause-plane c = (split_begins c.args.draft.now.model c.args.s c.args.plane.now c.args.upper c.requires.begins).in_range

pub find_section-requires-clause-sides : goal.find_section-requires-clause-sides
find_section-requires-clause-sides c =
    subst (λ X. AreSides X c.args.plane.now c.draw_solid.new.sides) (sym c.arena.ensures.model) c.in_ok-drawn.ensures.sides

pub returns-then-drawn-ne0-clause-carried : goal.returns-then-drawn-ne0-clause-carried
returns-then-drawn-ne0-clause-carried c =
    let ne = c.if-drawn-ne0.true in
    let z : nat_eq c.in_ok-drawn.drawn.stuck 0 ≡ false = grind (arith, nat_tests, ne) in
    c.refused.ensures ∙ ap verdict (stuck_decides c.args.draft.now.model c.args.s c.args.plane.now c.args.upper c.requires.begins (drawing_of c.in_ok-drawn.drawn c.draw_solid.new.draft.model []) c.in_ok-drawn.ensures.drawn z)

pub returns-in-Err-clause-carried : goal.returns-in-Err-clause-carried
returns-in-Err-clause-carried c =
    let found = c.in_ok-section.ensures.refused c.in-Err.refusal (ap Ok c.in-Err.is) in
    ap verdict (sym found ∙ section_decides c.args.draft.now.model c.args.s c.args.plane.now c.args.upper c.requires.begins (drawing_of c.in_ok-drawn.drawn c.arena.result.now.model [])
    (ap (λ X. drawing_of c.in_ok-drawn.drawn X []) c.arena.ensures.model ∙ c.in_ok-drawn.ensures.drawn) c.if-drawn-ne0.false)

pub part_drawn-requires-clause-drawn : goal.part_drawn-requires-clause-drawn
part_drawn-requires-clause-drawn c =
    let found = c.in_ok-section.ensures.open c.in-Ok.section (ap Ok c.in-Ok.is) in
    record {
      before = c.args.draft.now.model;
      sound = c.requires.sound;
      accepted = sym (section_decides c.args.draft.now.model c.args.s c.args.plane.now c.args.upper c.requires.begins (drawing_of c.in_ok-drawn.drawn c.arena.result.now.model [])
          (ap (λ X. drawing_of c.in_ok-drawn.drawn X []) c.arena.ensures.model ∙ c.in_ok-drawn.ensures.drawn) c.if-drawn-ne0.false) ∙ found.0;
      drawn = c.in_ok-drawn.ensures.drawn;
    }

pub part_drawn-requires-clause-section : goal.part_drawn-requires-clause-section
part_drawn-requires-clause-section c =
    let found = c.in_ok-section.ensures.open c.in-Ok.section (ap Ok c.in-Ok.is) in
    subst (λ X. IsSection X c.args.s c.args.plane.now c.in-Ok.section) c.arena.ensures.model found.1

pub returns-clause-carried : goal.returns-clause-carried
returns-clause-carried c =
    let found = c.in_ok-section.ensures.open c.in-Ok.section (ap Ok c.in-Ok.is) in
    ap verdict (sym found.0 ∙ section_decides c.args.draft.now.model c.args.s c.args.plane.now c.args.upper c.requires.begins (drawing_of c.in_ok-drawn.drawn c.arena.result.now.model [])
    (ap (λ X. drawing_of c.in_ok-drawn.drawn X []) c.arena.ensures.model ∙ c.in_ok-drawn.ensures.drawn) c.if-drawn-ne0.false)

pub returns-clause-steps : goal.returns-clause-steps
returns-clause-steps c = λ is.
    steps_after _ _ _ _ _ c.in_ok-drawn.ensures.steps c.in_ok-part_drawn.ensures.steps
    ∙ ap (after_steps c.args.draft.now) (split_ops_are c.args.draft.now.model c.args.s c.args.plane.now c.args.upper (drawing_of c.in_ok-drawn.drawn c.draw_solid.new.draft.model []) c.in_ok-drawn.ensures.drawn)

pub returns-clause-model : goal.returns-clause-model
returns-clause-model c = λ is.
    let found = c.in_ok-section.ensures.open c.in-Ok.section (ap Ok c.in-Ok.is) in
    let accepted = sym (section_decides c.args.draft.now.model c.args.s c.args.plane.now c.args.upper c.requires.begins (drawing_of c.in_ok-drawn.drawn c.arena.result.now.model [])
    (ap (λ X. drawing_of c.in_ok-drawn.drawn X []) c.arena.ensures.model ∙ c.in_ok-drawn.ensures.drawn) c.if-drawn-ne0.false) ∙ found.0 in
    steps_make _ _ _ (returns-clause-steps c is) ∙ split_made c.args.draft.now.model c.args.s c.args.plane.now c.args.upper c.requires.sound accepted
