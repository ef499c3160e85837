use Rattle.euler_conditions.proofs.Prelude.{◌≡◌, ℕ, ◌+◌, ◌-◌, sym, ap, ◌∙◌, subst, arith, mate, has_half, tail, parallel, mate-mate, steps, steps_are, half_of}
use Rattle.euler_conditions.proofs.Parallel.{HalfSeen, walk_ended, step_closed, step_more, alone, first_step, parallel_turned, mate_there}
use Rattle.euler_conditions.proofs.ends.parallel.Goals as goal

pub returns-then-g-code : goal.returns-then-g-code
returns-then-g-code c =
    let M = c.args.arena.now.model in let h : ℕ = c.code-code.result in
    alone M c.requires.ready.sound h (ap (has_half M) c.code-code.ensures ∙ half_of M c.args.h c.requires.there) _ (c.tail_of_code-far.ensures ∙ ap (tail M) c.mate_code-mate.ensures)
    _ c.round_code-g.ensures.round c.if-g-code.true ∙ ap (parallel M) c.code-code.ensures

pub returns-then-opposite-mate : goal.returns-then-opposite-mate
returns-then-opposite-mate c =
    let M = c.args.arena.now.model in let h : ℕ = c.code-code.result in let m : ℕ = c.mate_code-mate.result in
    let t = ap (has_half M) c.code-code.ensures ∙ half_of M c.args.h c.requires.there in
    alone M c.requires.ready.sound m (mate_there M h m t c.mate_code-mate.ensures) _ (c.tail_of_code-near.ensures ∙ ap (tail M) (sym (ap mate c.mate_code-mate.ensures ∙ mate-mate h)))
    _ c.round_code-opposite.ensures.round c.if-opposite-mate.true ∙ ap (parallel M) c.mate_code-mate.ensures ∙ parallel_turned M h ∙ ap (parallel M) c.code-code.ensures

pub round-init : goal.round-init
round-init c =
    let M = c.args.arena.now.model in let h : ℕ = c.code-code.result in let m : ℕ = c.mate_code-mate.result in
    let t = ap (has_half M) c.code-code.ensures ∙ half_of M c.args.h c.requires.there in (
      first_step M c.requires.ready.sound h t _ (c.tail_of_code-far.ensures ∙ ap (tail M) c.mate_code-mate.ensures) _ c.round_code-g.ensures.round c.if-g-code.false c.round_code-g.ensures.there,
      first_step M c.requires.ready.sound m (mate_there M h m t c.mate_code-mate.ensures) _ (c.tail_of_code-near.ensures ∙ ap (tail M) (sym (ap mate c.mate_code-mate.ensures ∙ mate-mate h)))
          _ c.round_code-opposite.ensures.round c.if-opposite-mate.false c.round_code-opposite.ensures.there,
    )

pub returns-then-g-code-2 : goal.returns-then-g-code-2
returns-then-g-code-2 c =
    let M = c.args.arena.now.model in let h : ℕ = c.code-code.result in
    step_closed M c.requires.ready.sound h (ap (has_half M) c.code-code.ensures ∙ half_of M c.args.h c.requires.there) _ (c.tail_of_code-far.ensures ∙ ap (tail M) c.mate_code-mate.ensures)
    _ _ _ _ _ (steps - (c.round.counter + 1)) c.round.invariant.0 (omega (arith, steps_are)) c.seen-least.ensures c.round_code-g-in-round.ensures.round c.if-g-code-2.true ∙ ap (parallel M) c.code-code.ensures

pub returns-then-opposite-mate-2 : goal.returns-then-opposite-mate-2
returns-then-opposite-mate-2 c =
    let M = c.args.arena.now.model in let h : ℕ = c.code-code.result in let m : ℕ = c.mate_code-mate.result in
    let t = ap (has_half M) c.code-code.ensures ∙ half_of M c.args.h c.requires.there in
    step_closed M c.requires.ready.sound m (mate_there M h m t c.mate_code-mate.ensures) _ (c.tail_of_code-near.ensures ∙ ap (tail M) (sym (ap mate c.mate_code-mate.ensures ∙ mate-mate h)))
    _ _ _ _ _ (steps - (c.round.counter + 1)) c.round.invariant.1 (omega (arith, steps_are)) c.seen-opposite_least.ensures c.round_code-opposite-in-round.ensures.round c.if-opposite-mate-2.true
    ∙ ap (parallel M) c.mate_code-mate.ensures ∙ parallel_turned M h ∙ ap (parallel M) c.code-code.ensures

pub round-preserved : goal.round-preserved
round-preserved c =
    let M = c.args.arena.now.model in let h : ℕ = c.code-code.result in let m : ℕ = c.mate_code-mate.result in
    let t = ap (has_half M) c.code-code.ensures ∙ half_of M c.args.h c.requires.there in (
      step_more M c.requires.ready.sound h t _ (c.tail_of_code-far.ensures ∙ ap (tail M) c.mate_code-mate.ensures)
          _ _ _ _ _ (steps - (c.round.counter + 1)) c.round.invariant.0 (omega (arith, steps_are)) c.seen-least.ensures c.round_code-g-in-round.ensures.round c.if-g-code-2.false c.round_code-g-in-round.ensures.there,
      step_more M c.requires.ready.sound m (mate_there M h m t c.mate_code-mate.ensures) _ (c.tail_of_code-near.ensures ∙ ap (tail M) (sym (ap mate c.mate_code-mate.ensures ∙ mate-mate h)))
          _ _ _ _ _ (steps - (c.round.counter + 1)) c.round.invariant.1 (omega (arith, steps_are)) c.seen-opposite_least.ensures c.round_code-opposite-in-round.ensures.round c.if-opposite-mate-2.false c.round_code-opposite-in-round.ensures.there,
    )

pub returns : goal.returns
returns c =
    let M = c.args.arena.now.model in let h : ℕ = c.code-code.result in
    let far : c.tail_of_code-far.result ≡ tail M (mate h) = c.tail_of_code-far.ensures ∙ ap (tail M) c.mate_code-mate.ensures in
    walk_ended M c.requires.ready.sound h (ap (has_half M) c.code-code.ensures ∙ half_of M c.args.h c.requires.there) c.round.least c.round.g (steps - c.round.counter)
    (subst (λ f. HalfSeen M h f c.round.least c.round.g (steps - c.round.counter)) far c.round.invariant.0) (omega (arith, steps_are)) ∙ ap (parallel M) c.code-code.ensures
