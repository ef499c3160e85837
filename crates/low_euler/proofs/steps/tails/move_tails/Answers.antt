use Rattle.low_euler.proofs.Prelude.{◌<◌, length, ap, sym, subst, ◌∙◌, code, mate, has_half, arc, code-half, Store, set_tail}
use Rattle.euler_conditions.proofs.Coded.{edge_fits}
use Rattle.low_euler.proofs.steps_laws.Tails.{HasCome, come_first, half_now, mate_there, come_next, come_last}
use Rattle.low_euler.proofs.steps.tails.move_tails.Goals as goal

pub code-end-requires : goal.code-end-requires
code-end-requires c = edge_fits _ c.requires.sound c.args.to c.requires.to

pub code-code-requires : goal.code-code-requires
code-code-requires c = edge_fits _ c.requires.sound c.args.from c.requires.from

pub round-init : goal.round-init
round-init c = subst (λ x. HasCome c.args.arena.now c.args.arena.now (code c.args.from) (code c.args.to) x c.args.vertex) (sym c.code-code.ensures) (come_first c.args.arena.now (code c.args.from) (code c.args.to) c.args.vertex c.requires.from c.requires.one_tail)

pub set_tail-requires : goal.set_tail-requires
set_tail-requires c =
    ap (has_half c.round.arena.model) (ap code c.of_code.ensures ∙ code-half c.round.code)
    ∙ half_now c.args.arena.now c.round.arena (code c.args.from) (code c.args.to) c.round.code c.args.vertex c.requires.sound c.requires.to c.round.invariant c.round.code c.round.invariant.here

pub next-requires : goal.next-requires
next-requires c =
    ap (λ (t : Store). has_half t.model (code c.mate.result)) (c.set_tail.ensures ∙ ap (λ y. set_tail c.round.arena y c.args.vertex) (ap code c.of_code.ensures ∙ code-half c.round.code))
    ∙ ap (has_half (set_tail c.round.arena c.round.code c.args.vertex).model) (c.mate.ensures ∙ ap mate (ap code c.of_code-in-round.ensures ∙ code-half c.round.code))
    ∙ mate_there c.args.arena.now c.round.arena (code c.args.from) (code c.args.to) c.round.code c.args.vertex c.requires.sound c.requires.to c.round.invariant

-- the next half-edge is one step nearer to the end
come_on : (c : goal.After-next) → HasCome c.args.arena.now c.set_tail.new.self (code c.args.from) (code c.args.to) (code c.next.result) c.args.vertex
    × (length (arc c.args.arena.now.model (code c.next.result) (code c.args.to)) < length (arc c.args.arena.now.model c.round.code (code c.args.to)))
come_on c = come_next _ _ _ _ _ _ c.requires.sound c.requires.to c.round.invariant _ _ _
    (c.set_tail.ensures ∙ ap (λ y. set_tail c.round.arena y c.args.vertex) (ap code c.of_code.ensures ∙ code-half c.round.code))
    (c.mate.ensures ∙ ap mate (ap code c.of_code-in-round.ensures ∙ code-half c.round.code)) c.next.ensures.in_loop (λ e. c.round-test.true (e ∙ sym c.code-end.ensures))

pub code-code-requires-in-round : goal.code-code-requires-in-round
code-code-requires-in-round c = edge_fits _ c.requires.sound c.next.result (come_on c).0.here

pub round-smaller : goal.round-smaller
round-smaller c = subst (λ y. length (arc c.args.arena.now.model y (code c.args.to)) < length (arc c.args.arena.now.model c.round.code (code c.args.to)))
    (sym c.code-code-in-round.ensures) (come_on c.before).1

pub round-preserved : goal.round-preserved
round-preserved c = subst (λ y. HasCome c.args.arena.now c.set_tail.new.self (code c.args.from) (code c.args.to) y c.args.vertex)
    (sym c.code-code-in-round.ensures) (come_on c.before).0

pub returns : goal.returns
returns c = come_last c.args.arena.now c.round.arena (code c.args.from) (code c.args.to) c.round.code c.args.vertex c.requires.sound c.requires.to c.round.invariant (c.round-test.false ∙ c.code-end.ensures)
