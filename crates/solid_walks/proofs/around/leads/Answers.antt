use Rattle.solid_walks.proofs.Prelude.{ℕ, ◌+◌, ◌-◌, ◌≤◌, ◌<◌, sym, ap, subst, ◌∙◌, arith, edge_of, mate, round, steps, steps_are}
use Rattle.solid_walks.proofs.TwoWays.{Unseen, unseen_start, unseen_ended, faced_there, met_back, lesser_back, step_back, met_ahead, lesser_ahead, step_ahead, not_less, less}
use Rattle.solid_walks.proofs.around.leads.Goals as goal

pub round-init : goal.round-init
round-init c =
    let M = c.args.arena.now.model in let h : ℕ = c.args.code in
    record {
      last = h;
      walk = subst (Unseen M h h h) (omega arith) (unseen_start M c.requires.ready.sound h c.requires.there);
      comes = c.mate_code-behind.ensures ∙ ap mate c.requires.previous;
    }

pub returns-then-behind-ahead : goal.returns-then-behind-ahead
returns-then-behind-ahead c = sym (met_back c.args.arena.now.model c.requires.ready.sound c.args.code c.requires.there c.round.ahead c.round.behind (steps - c.round.counter) c.round.invariant c.if-behind-ahead.true)

pub returns-then-behind-edge : goal.returns-then-behind-edge
returns-then-behind-edge c =
    sym (lesser_back c.args.arena.now.model c.requires.ready.sound c.args.code c.requires.there c.round.ahead c.round.behind (steps - c.round.counter) c.round.invariant (less c.round.behind c.args.code c.if-behind-edge.true))

pub returns-then-next-behind : goal.returns-then-next-behind
returns-then-next-behind c =
    let M = c.args.arena.now.model in let s = c.requires.ready.sound in let h : ℕ = c.args.code in let n : ℕ = steps - c.round.counter in
    let back : Unseen M h c.round.ahead c.round.behind n =
    step_back M s h c.requires.there c.round.ahead c.round.behind n c.round.invariant c.if-behind-ahead.false (not_less c.round.behind h c.if-behind-edge.false) in
    sym (met_ahead M s h c.requires.there c.round.ahead c.round.behind n back (sym c.round_code-next.ensures.round ∙ c.if-next-behind.true))

pub returns-then-next-edge : goal.returns-then-next-edge
returns-then-next-edge c =
    let M = c.args.arena.now.model in let s = c.requires.ready.sound in let h : ℕ = c.args.code in let n : ℕ = steps - c.round.counter in
    let back : Unseen M h c.round.ahead c.round.behind n =
    step_back M s h c.requires.there c.round.ahead c.round.behind n c.round.invariant c.if-behind-ahead.false (not_less c.round.behind h c.if-behind-edge.false) in
    sym (lesser_ahead M s h c.requires.there c.round.ahead c.round.behind n back
    (subst (λ x. edge_of x < edge_of h) c.round_code-next.ensures.round (less c.round_code-next.result h c.if-next-edge.true)))

pub round_code-next-requires-clause-there : goal.round_code-next-requires-clause-there
round_code-next-requires-clause-there c = c.round.invariant.walk.ahead.0

pub back-behind-requires-clause-there : goal.back-behind-requires-clause-there
back-behind-requires-clause-there c =
    faced_there c.args.arena.now.model c.requires.ready.sound c.args.code c.requires.there c.round.ahead c.round.behind (steps - c.round.counter) c.round.invariant

pub round-preserved : goal.round-preserved
round-preserved c =
    let M = c.args.arena.now.model in let s = c.requires.ready.sound in let h : ℕ = c.args.code in let n : ℕ = steps - c.round.counter in
    let back : Unseen M h c.round.ahead c.round.behind n =
    step_back M s h c.requires.there c.round.ahead c.round.behind n c.round.invariant c.if-behind-ahead.false (not_less c.round.behind h c.if-behind-edge.false) in
    let both : Unseen M h (round M c.round.ahead) c.round.behind (steps - (c.round.counter + 1)) =
    step_ahead M s h c.requires.there c.round.ahead c.round.behind n back (steps - (c.round.counter + 1)) (omega (arith, steps_are)) (λ e. c.if-next-behind.false (c.round_code-next.ensures.round ∙ e))
    (subst (λ x. edge_of h ≤ edge_of x) c.round_code-next.ensures.round (not_less c.round_code-next.result h c.if-next-edge.false)) in
    record {
      last = c.round.behind;
      walk = subst (λ x. Unseen M h x c.round.behind (steps - (c.round.counter + 1))) (sym c.round_code-next.ensures.round) both;
      comes = c.back-behind.ensures;
    }

pub returns : goal.returns
returns c = sym (unseen_ended c.args.arena.now.model c.requires.ready.sound c.args.code c.requires.there c.round.ahead c.round.invariant.last (steps - c.round.counter) c.round.invariant.walk (omega (arith, steps_are)))
