use Rattle.solid_measure.proofs.Prelude.{◌≢◌, ℕ, ◌+◌, ◌-◌, refl, sym, ap, subst, ◌∙◌, arith, code, origin, has_half, steps, steps_are, half_in, edge_fits, read}
use Rattle.solid_measure.proofs.AreaRounds.{area_ended}
use Rattle.solid_measure.proofs.SweptRounds.{SweptRound, swept_start, swept_fits, swept_few, swept_items, swept_next, swept_closed, swept_room, swept_on}
use Rattle.solid_measure.proofs.LeastRounds.{LeastRound, least_start, least_closed, least_more, least_ended, lower_item}
use Rattle.solid_measure.proofs.loops.walk_within.Goals as goal

pub round-init : goal.round-init
round-init c =
    let M = c.args.arena.now.model in let s = c.requires.ready.sound in let l = c.args.l in let first : ℕ = code c.args.first in let i = c.requires.item in
    let v = c.args.vector in record {
      from = c.start_of_code-from.ensures.point;
      range = c.start_of_code-from.ensures.range;
      swept = subst (λ x. SweptRound M l first x (steps - 0) 0 (read v) (record { whole = v; last = origin })) (sym c.code-begin.ensures)
          (subst (λ n. SweptRound M l first first n 0 (read v) (record { whole = v; last = origin })) (omega arith) (swept_start M s l first i (read v) c.requires.vector v refl));
      least = subst (λ x. LeastRound M l first x (steps - 0) x) (sym c.code-begin.ensures) (subst (λ n. LeastRound M l first first n first) (omega arith) (least_start M s l first i));
    }

pub code-begin-requires : goal.code-begin-requires
code-begin-requires c =
    let M = c.args.arena.now.model in let s = c.requires.ready.sound in let first : ℕ = code c.args.first in
    edge_fits M s c.args.first (half_in M s c.args.l first c.requires.item first c.requires.item)

pub start_of_code-from-requires-clause-there : goal.start_of_code-from-requires-clause-there
start_of_code-from-requires-clause-there c =
    let M = c.args.arena.now.model in let first : ℕ = code c.args.first in
    ap (has_half M) c.code-begin.ensures ∙ half_in M c.requires.ready.sound c.args.l first c.requires.item first c.requires.item

pub short_crossed-last-requires-clause-last : goal.short_crossed-last-requires-clause-last
short_crossed-last-requires-clause-last c =
    swept_fits c.args.arena.now.model c.requires.ready.sound c.args.l (code c.args.first) c.requires.item (read c.args.vector) c.requires.vector c.round.code (steps - c.round.count) c.round.count c.round.swept c.round.invariant.swept

pub returns-then-next-begin-clause-walked : goal.returns-then-next-begin-clause-walked
returns-then-next-begin-clause-walked c =
    let M = c.args.arena.now.model in let s = c.requires.ready.sound in let l = c.args.l in let first : ℕ = code c.args.first in let i = c.requires.item in
    let n = steps - c.round.count in let k = steps - (c.round.count + 1) in record {
      sum = swept_closed M s l first i (read c.args.vector) c.requires.vector c.round.code n c.round.count c.round.swept c.round.invariant.swept
          k c.next_code-next.result (omega (arith, steps_are)) c.round.from c.start_of_code-to.result c.short_crossed-last.result c.short_crossed-last.ensures
          c.next_code-next.ensures.next c.round.invariant.from c.start_of_code-to.ensures.point (c.if-next-begin.true ∙ c.code-begin.ensures);
      whole = c.round.invariant.swept.whole;
      last = swept_next M s l first i (read c.args.vector) c.requires.vector c.round.code n c.round.count c.round.swept c.round.invariant.swept
          k c.next_code-next.result (omega (arith, steps_are)) c.round.from c.start_of_code-to.result c.short_crossed-last.result c.short_crossed-last.ensures c.round.invariant.range c.start_of_code-to.ensures.range;
      least = least_closed M s l first i c.round.code n c.round.least c.round.invariant.least k (omega (arith, steps_are))
          c.min-least.result c.min-least.ensures (sym c.next_code-next.ensures.next ∙ c.if-next-begin.true ∙ c.code-begin.ensures);
      there = half_in M s l first i c.min-least.result
          (lower_item M s l first i c.round.code n c.round.least c.round.invariant.least k (omega (arith, steps_are)) c.min-least.result c.min-least.ensures);
    }

pub carried-swept-requires-clause-all : goal.carried-swept-requires-clause-all
carried-swept-requires-clause-all c =
    swept_room c.args.arena.now.model c.requires.ready.sound c.args.l (code c.args.first) c.requires.item (read c.args.vector) c.requires.vector c.round.code (steps - c.round.count) c.round.count c.round.swept c.round.invariant.swept
    (steps - (c.round.count + 1)) c.next_code-next.result (omega (arith, steps_are)) c.round.from c.start_of_code-to.result c.short_crossed-last.result c.short_crossed-last.ensures
    c.next_code-next.ensures.next c.round.invariant.from c.start_of_code-to.ensures.point (λ e. c.if-next-begin.false (e ∙ sym c.code-begin.ensures))

pub carried-swept-requires-clause-last : goal.carried-swept-requires-clause-last
carried-swept-requires-clause-last c =
    swept_items c.args.arena.now.model c.requires.ready.sound c.args.l (code c.args.first) c.requires.item (read c.args.vector) c.requires.vector c.round.code (steps - c.round.count) c.round.count c.round.swept c.round.invariant.swept
    (steps - (c.round.count + 1)) c.next_code-next.result (omega (arith, steps_are)) c.round.from c.start_of_code-to.result c.short_crossed-last.result c.short_crossed-last.ensures c.round.invariant.range c.start_of_code-to.ensures.range

pub round-preserved : goal.round-preserved
round-preserved c =
    let M = c.args.arena.now.model in let s = c.requires.ready.sound in let l = c.args.l in let first : ℕ = code c.args.first in let i = c.requires.item in let k = steps - (c.round.count + 1) in
    let apart : c.next_code-next.result ≢ first = λ e. c.if-next-begin.false (e ∙ sym c.code-begin.ensures) in record {
      from = c.start_of_code-to.ensures.point;
      range = c.start_of_code-to.ensures.range;
      swept = swept_on M s l first i (read c.args.vector) c.requires.vector c.round.code (steps - c.round.count) c.round.count c.round.swept c.round.invariant.swept
          k c.next_code-next.result (omega (arith, steps_are)) c.round.from c.start_of_code-to.result c.short_crossed-last.result c.short_crossed-last.ensures
          c.next_code-next.ensures.next c.round.invariant.from c.start_of_code-to.ensures.point apart c.carried-swept.result c.carried-swept.ensures.same c.carried-swept.ensures.whole c.carried-swept.ensures.last;
      least = subst (λ x. LeastRound M l first x k c.min-least.result) (sym c.next_code-next.ensures.next)
          (least_more M s l first i c.round.code (steps - c.round.count) c.round.least c.round.invariant.least k (omega (arith, steps_are))
          c.min-least.result c.min-least.ensures (λ e. apart (c.next_code-next.ensures.next ∙ e)));
    }

pub returns-clause-walked : goal.returns-clause-walked
returns-clause-walked c =
    let M = c.args.arena.now.model in let s = c.requires.ready.sound in let l = c.args.l in let first : ℕ = code c.args.first in let i = c.requires.item in
    let n = steps - c.round.count in record {
      sum = area_ended M s l first i (read c.args.vector) c.round.code n _ c.round.invariant.swept.area (omega (arith, steps_are));
      whole = c.round.invariant.swept.whole;
      last = swept_few M s l first i (read c.args.vector) c.requires.vector c.round.code n c.round.count c.round.swept c.round.invariant.swept;
      least = least_ended M s l first i c.round.code n c.round.least c.round.invariant.least (omega (arith, steps_are));
      there = half_in M s l first i c.round.least c.round.invariant.least.item;
    }
