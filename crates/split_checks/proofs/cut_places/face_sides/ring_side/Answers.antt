use Rattle.split_checks.proofs.Prelude.{◌≡◌, ◌∙◌, ◌||◌, true, ap, sym, length, arith, Sign, Above, Below, cycle_of, has_half, start, edge_fits, item_there, item_in, goes_on, lies, same_sign, side_reached, some_start}
use Rattle.split_checks.proofs.cut_places_laws.NotedSides.{is_up}
use Rattle.split_checks.proofs.cut_places_laws.RingTests.{left, walk_begins, walk_finds, walk_ended, walk_left, walk_told, walk_adds}
use Rattle.split_checks.proofs.cut_places_laws.Signs.{sign_lies}
use Rattle.split_checks.proofs.cut_places.face_sides.ring_side.Goals as goal

pub code-first-requires : goal.code-first-requires
code-first-requires c =
    let M = c.args.arena.now.model in
    edge_fits M c.requires.ready.sound c.args.h c.requires.there

pub round-init : goal.round-init
round-init c =
    let M = c.args.arena.now.model in let sound = c.requires.ready.sound in let h = c.code-first.result in let there = ap (has_half M) c.code-first.ensures ∙ c.requires.there in
    record {
      at_in = item_in M sound h there;
      sides = c.requires.sides;
      up = walk_begins M sound h there (λ k. lies Above c.args.plane (start M k));
      down = walk_begins M sound h there (λ k. lies Below c.args.plane (start M k));
    }

pub side_of_code-side-requires-clause-there : goal.side_of_code-side-requires-clause-there
side_of_code-side-requires-clause-there c = item_there c.args.arena.now.model c.requires.ready.sound c.code-first.result (ap (has_half c.args.arena.now.model) c.code-first.ensures ∙ c.requires.there) c.round.at c.round.invariant.at_in

pub returns-then-same-clause-is : goal.returns-then-same-clause-is
returns-then-same-clause-is c =
    let M = c.args.arena.now.model in let p = c.args.plane in let side = c.side_of_code-side.result in
    let up : same_sign side Above ≡ true = sym c.same.ensures ∙ c.if-same.true in
    let lies_up = sym (ap (λ s. same_sign s Above) c.side_of_code-side.ensures.is ∙ sign_lies Above p (start M c.round.at)) ∙ up in
    is_up side up ∙ ap (λ b. side_reached b (some_start Below M p (cycle_of M c.code-first.result)))
    (sym (walk_finds M c.requires.ready.sound c.code-first.result (ap (has_half c.args.arena.now.model) c.code-first.ensures ∙ c.requires.there) (λ k. lies Above p (start M k)) c.round.at lies_up) ∙ c.round.invariant.up)
    ∙ ap (λ x. side_reached (some_start Above M p (cycle_of M x)) (some_start Below M p (cycle_of M x))) c.code-first.ensures

pub next_code-at-requires-clause-there : goal.next_code-at-requires-clause-there
next_code-at-requires-clause-there c = item_there c.args.arena.now.model c.requires.ready.sound c.code-first.result (ap (has_half c.args.arena.now.model) c.code-first.ensures ∙ c.requires.there) c.round.at c.round.invariant.at_in

pub returns-then-at-first-clause-is : goal.returns-then-at-first-clause-is
returns-then-at-first-clause-is c =
    let M = c.args.arena.now.model in let sound = c.requires.ready.sound in let p = c.args.plane in let h = c.code-first.result in let there = ap (has_half M) c.code-first.ensures ∙ c.requires.there in let x = c.round.at in let r = c.next_code-at.result in
    let told : (side : Sign) → same_sign c.side_of_code-side.result side ≡ lies side p (start M x) = λ side. ap (λ s. same_sign s side) c.side_of_code-side.ensures.is ∙ sign_lies side p (start M x) in
    let back = c.if-at-first.true in
    let up = sym (walk_ended M sound h there (λ k. lies Above p (start M k)) x r c.round.invariant.at_in (λ _. c.next_code-at.ensures.next) back (sym (told Above) ∙ sym c.same.ensures ∙ c.if-same.false)) ∙ c.round.invariant.up in
    let down = ap (λ b. c.round.below || b) (c.same-below.ensures ∙ told Below) ∙ walk_told M sound h there (λ k. lies Below p (start M k)) c.round.below x r c.round.invariant.at_in (λ _. c.next_code-at.ensures.next) back ∙ c.round.invariant.down in
    c.none_above.ensures ∙ (λ i. side_reached (up i) (down i)) ∙ ap (λ x. side_reached (some_start Above M p (cycle_of M x)) (some_start Below M p (cycle_of M x))) c.code-first.ensures

pub round-smaller : goal.round-smaller
round-smaller c =
    let on = goes_on c.args.arena.now.model c.requires.ready.sound c.code-first.result (ap (has_half c.args.arena.now.model) c.code-first.ensures ∙ c.requires.there) c.round.at c.next_code-at.result c.round.invariant.at_in (λ _. c.next_code-at.ensures.next) (c.if-at-first.false) in
    omega (arith, ap length on.1)

pub round-preserved : goal.round-preserved
round-preserved c =
    let M = c.args.arena.now.model in let sound = c.requires.ready.sound in let p = c.args.plane in let h = c.code-first.result in let there = ap (has_half M) c.code-first.ensures ∙ c.requires.there in let x = c.round.at in let r = c.next_code-at.result in
    let told : (side : Sign) → same_sign c.side_of_code-side.result side ≡ lies side p (start M x) = λ side. ap (λ s. same_sign s side) c.side_of_code-side.ensures.is ∙ sign_lies side p (start M x) in
    let other = c.if-at-first.false in
    record {
      at_in = (goes_on M sound h there x r c.round.invariant.at_in (λ _. c.next_code-at.ensures.next) other).0;
      sides = c.side_of_code-side.ensures.sides;
      up = walk_left M sound h there (λ k. lies Above p (start M k)) x r c.round.invariant.at_in (λ _. c.next_code-at.ensures.next) other (sym (told Above) ∙ sym c.same.ensures ∙ c.if-same.false) ∙ c.round.invariant.up;
      down = ap (λ b. (c.round.below || b) || left M sound h there (λ k. lies Below p (start M k)) r) (c.same-below.ensures ∙ told Below)
          ∙ walk_adds M sound h there (λ k. lies Below p (start M k)) c.round.below x r c.round.invariant.at_in (λ _. c.next_code-at.ensures.next) other ∙ c.round.invariant.down;
    }
