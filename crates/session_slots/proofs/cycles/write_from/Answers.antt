use Rattle.session_slots.proofs.Prelude.{◌∙◌, sym, ap, subst, ◌+◌, slice_set, arith, face_of}
use Rattle.session_slots.proofs.CycleRounds.{CycleRound, round_start, at_there, at_loop, count_short, round_shorter, round_more, count_is, cycle_laid}
use Rattle.session_slots.proofs.cycles.write_from.Goals as goal

pub round-init : goal.round-init
round-init g c = let M = c.args.arena.now.model in round_start (g.T.Written.told M) M c.requires.sound c.args.first c.requires.there c.args.place c.args.buf.now

pub next_code-next-requires-clause-there : goal.next_code-next-requires-clause-there
next_code-next-requires-clause-there g c =
    let M = c.args.arena.now.model in at_there (g.T.Written.told M) M c.requires.sound c.args.first c.requires.there c.args.place c.args.buf.now c.round.at c.round.buf c.round.end c.round.invariant

pub of-requires-clause-there : goal.of-requires-clause-there
of-requires-clause-there g c =
    let M = c.args.arena.now.model in at_there (g.T.Written.told M) M c.requires.sound c.args.first c.requires.there c.args.place c.args.buf.now c.round.at c.round.buf c.round.end c.round.invariant

pub of-requires-clause-of_loop : goal.of-requires-clause-of_loop
of-requires-clause-of_loop g c =
    let M = c.args.arena.now.model in
    c.requires.of_loop ∙ sym (at_loop (g.T.Written.told M) M c.requires.sound c.args.first c.requires.there c.args.place c.args.buf.now c.round.at c.round.buf c.round.end c.round.invariant)

pub of-requires-clause-face : goal.of-requires-clause-face
of-requires-clause-face g c =
    let M = c.args.arena.now.model in
    c.requires.face ∙ ap (face_of M) (c.requires.of_loop ∙ sym (at_loop (g.T.Written.told M) M c.requires.sound c.args.first c.requires.there c.args.place c.args.buf.now c.round.at c.round.buf c.round.end c.round.invariant))

pub overflow_add-end : goal.overflow_add-end
overflow_add-end g c =
    let M = c.args.arena.now.model in
    omega (arith, c.requires.place, count_short (g.T.Written.told M) M c.requires.sound c.args.first c.requires.there c.args.place c.args.buf.now c.round.at c.round.buf c.round.end c.round.invariant)

pub returns-then-next-first-clause-count : goal.returns-then-next-first-clause-count
returns-then-next-first-clause-count g c =
    let M = c.args.arena.now.model in
    count_is (g.T.Written.told M) M c.requires.sound c.args.first c.requires.there c.args.place c.args.buf.now c.round.at c.round.buf c.round.end c.round.invariant
    c.next_code-next.result c.next_code-next.ensures.next c.if-next-first.true

pub returns-then-next-first-clause-items : goal.returns-then-next-first-clause-items
returns-then-next-first-clause-items g c =
    let M = c.args.arena.now.model in
    c.put_at.ensures ∙ ap (slice_set c.round.buf c.round.end) c.of.ensures
    ∙ cycle_laid (g.T.Written.told M) M c.requires.sound c.args.first c.requires.there c.args.place c.args.buf.now c.round.at c.round.buf c.round.end c.round.invariant
    c.next_code-next.result c.next_code-next.ensures.next c.if-next-first.true

pub round-smaller : goal.round-smaller
round-smaller g c =
    let M = c.args.arena.now.model in
    let shorter = round_shorter (g.T.Written.told M) M c.requires.sound c.args.first c.requires.there c.args.place c.args.buf.now c.round.at c.round.buf c.round.end c.round.invariant
    c.next_code-next.result c.next_code-next.ensures.next c.if-next-first.false in
    omega (arith, shorter)

pub round-preserved : goal.round-preserved
round-preserved g c =
    let M = c.args.arena.now.model in let f = g.T.Written.told M in
    let put = c.put_at.ensures ∙ ap (slice_set c.round.buf c.round.end) c.of.ensures in
    subst (λ now. CycleRound f M c.args.first c.args.place c.next_code-next.result c.args.buf.now now (c.round.end + 1)) (sym put)
    (round_more f M c.requires.sound c.args.first c.requires.there c.args.place c.args.buf.now c.round.at c.round.buf c.round.end c.round.invariant
    c.next_code-next.result c.next_code-next.ensures.next c.if-next-first.false)
