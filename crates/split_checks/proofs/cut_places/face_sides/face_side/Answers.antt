use Rattle.split_checks.proofs.Prelude.{◌≡◌, ◌∙◌, ◌||◌, false, ap, sym, length, arith, content, rings_of, Sign, Above, Below, or_false, vertices_in, vertices_on, above, next_ring, reaches, side_reached, some_lie}
use Rattle.split_checks.proofs.cut_places_laws.Met.{or_joined}
use Rattle.split_checks.proofs.cut_places_laws.NotedSides.{is_up, told_up, told_down}
use Rattle.split_checks.proofs.cut_places_laws.Rings.{outer_lies, ring_lies, none_lies}
use Rattle.split_checks.proofs.cut_places.face_sides.face_side.Goals as goal

pub returns-then-same-clause-is : goal.returns-then-same-clause-is
returns-then-same-clause-is c =
    let M = c.args.arena.now.model in let f = c.args.f in let p = c.args.plane in
    let up = sym c.same.ensures ∙ c.if-same.true in
    let reached = sym (told_up c.loop_side-outer.result _ _ c.loop_side-outer.ensures.is) ∙ up in
    is_up c.loop_side-outer.result up ∙ ap (λ b. side_reached b (reaches Below M p f))
    (sym (outer_lies M f Above p c.requires.ready.sound ∙ ap (λ b. b || some_lie Above M p (vertices_in M (above 0 (rings_of M f))))
    (ap (λ l. some_lie Above M p (vertices_on M (content M l))) (sym c.outer.ensures) ∙ reached)))

pub rings-init : goal.rings-init
rings-init c =
    let M = c.args.arena.now.model in let f = c.args.f in let p = c.args.plane in let outer_side = c.loop_side-outer.result in
    let off = sym (told_up outer_side _ _ c.loop_side-outer.ensures.is) ∙ sym c.same.ensures ∙ c.if-same.false in
    record {
      sides = c.loop_side-outer.ensures.sides;
      up = sym (outer_lies M f Above p c.requires.ready.sound ∙ ap (λ b. b || some_lie Above M p (vertices_in M (above 0 (rings_of M f))))
          (ap (λ l. some_lie Above M p (vertices_on M (content M l))) (sym c.outer.ensures) ∙ off));
      down = sym (outer_lies M f Below p c.requires.ready.sound ∙ ap (λ b. b || some_lie Below M p (vertices_in M (above 0 (rings_of M f))))
          (ap (λ l. some_lie Below M p (vertices_on M (content M l))) (sym c.outer.ensures) ∙ sym (told_down outer_side _ _ c.loop_side-outer.ensures.is off) ∙ sym c.same-below.ensures));
    }

pub returns-then-same-2-clause-is : goal.returns-then-same-2-clause-is
returns-then-same-2-clause-is c =
    let M = c.args.arena.now.model in let f = c.args.f in let p = c.args.plane in let l = c.in-Some.l in let side = c.loop_side-side.result in
    let up = sym c.same-in-Some.ensures ∙ c.if-same-2.true in
    let reached = sym (told_up side _ _ c.loop_side-side.ensures.is) ∙ up in
    is_up side up ∙ ap (λ b. side_reached b (reaches Below M p f))
    (sym (ring_lies M f Above p c.rings.last l c.in-Some.ensures ∙ ap (λ b. b || some_lie Above M p (vertices_in M (above l (rings_of M f)))) reached) ∙ c.rings.invariant.up)

pub rings-smaller : goal.rings-smaller
rings-smaller c = let next = next_ring c.args.arena.now.model c.args.f c.rings.last c.in-Some.l c.in-Some.ensures in omega (arith, ap length next)

pub rings-preserved : goal.rings-preserved
rings-preserved c =
    let M = c.args.arena.now.model in let f = c.args.f in let p = c.args.plane in let l = c.in-Some.l in let side = c.loop_side-side.result in
    let off = sym (told_up side _ _ c.loop_side-side.ensures.is) ∙ sym c.same-in-Some.ensures ∙ c.if-same-2.false in
    let rest = some_lie Below M p (vertices_in M (above l (rings_of M f))) in
    record {
      sides = c.loop_side-side.ensures.sides;
      up = sym (ring_lies M f Above p c.rings.last l c.in-Some.ensures ∙ ap (λ b. b || some_lie Above M p (vertices_in M (above l (rings_of M f)))) off) ∙ c.rings.invariant.up;
      down = or_joined c.rings.below _ rest ∙ ap (λ b. c.rings.below || (b || rest)) (c.same-below-in-Some.ensures ∙ told_down side _ _ c.loop_side-side.ensures.is off)
          ∙ ap (λ b. c.rings.below || b) (sym (ring_lies M f Below p c.rings.last l c.in-Some.ensures)) ∙ c.rings.invariant.down;
    }

pub returns-clause-is : goal.returns-clause-is
returns-clause-is c =
    let M = c.args.arena.now.model in let f = c.args.f in let p = c.args.plane in
    let none : (side : Sign) → some_lie side M p (vertices_in M (above c.rings.last (rings_of M f))) ≡ false = λ side. none_lies M f side p c.rings.last c.in_default.ensures in
    let up = sym (none Above) ∙ c.rings.invariant.up in
    let down = sym (or_false c.rings.below) ∙ ap (λ b. c.rings.below || b) (sym (none Below)) ∙ c.rings.invariant.down in
    c.none_above.ensures ∙ (λ i. side_reached (up i) (down i))
