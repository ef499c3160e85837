use Rattle.arena_rows.proofs.Prelude.{◌≡◌, ◌-◌, ◌+◌, ℕ, true, true≢false, Some, ap, sym, refl, subst, ◌∙◌, arith, false≢true, RingMap, spot, next_of, or_zero, codes, live}
use Rattle.arena_rows.proofs.ring_spots_laws.SpotTables.{codes_are}
use Rattle.arena_rows.proofs.ring_spots_laws.Lengths.{Counted, counted_none, counted_all, counted_more, counted_some, counted_over}
use Rattle.arena_rows.proofs.ring_spots.parts.is_shorter.Goals as goal

-- a step of a walk, told of the pool that is walked
stepped : (m n : RingMap) (p d e : ℕ) → m ≡ n → next_of m p ≡ Some d → e ≡ d → or_zero (next_of n p) ≡ e
stepped m n p d e same next is = subst (λ (r : RingMap). or_zero (next_of r p) ≡ e) same (ap or_zero next ∙ sym is)

pub round-init : goal.round-init
round-init c = let sp = spot c.args.rings.now in record {
  round_a = c.walk-p.ensures.rings;
  round_b = c.walk-q.ensures.rings;
  live_a = subst (λ (h : ℕ). live sp h ≡ true) (sym c.walk-p.ensures.code) c.requires.a;
  live_b = subst (λ (h : ℕ). live sp h ≡ true) (sym c.walk-q.ensures.code) c.requires.b;
  from_a = subst (λ (h : ℕ). Counted sp c.args.a h 0 (codes - 0)) (sym c.walk-p.ensures.code) (counted_none sp c.requires.rings c.args.a (codes - 0) c.requires.a (omega arith));
  from_b = subst (λ (h : ℕ). Counted sp c.args.b h 0 (codes - 0)) (sym c.walk-q.ensures.code) (counted_none sp c.requires.rings c.args.b (codes - 0) c.requires.b (omega arith));
}

pub returns-then-step-a-clause-shorter : goal.returns-then-step-a-clause-shorter
returns-then-step-a-clause-shorter c = λ _.
    let sp = spot c.args.rings.now in
    let all = counted_all sp c.args.a c.round.p.code c.step.result c.round.counter (codes - c.round.counter) (codes - (c.round.counter + 1)) (omega (arith, codes_are)) c.round.invariant.from_a (stepped _ _ _ _ _ c.round.invariant.round_a c.step.ensures.next c.step.ensures.code) c.if-step-a.true in
    let some = counted_some sp c.args.b c.round.q.code c.round.counter (codes - c.round.counter) (codes - (c.round.counter + 1)) (omega (arith, codes_are)) c.round.invariant.from_b in
    omega (arith, all, some)

pub returns-then-step-a-clause-longer : goal.returns-then-step-a-clause-longer
returns-then-step-a-clause-longer c = λ e. absurd (true≢false e)

pub returns-then-step-b-clause-shorter : goal.returns-then-step-b-clause-shorter
returns-then-step-b-clause-shorter c = λ e. absurd (false≢true e)

pub returns-then-step-b-clause-longer : goal.returns-then-step-b-clause-longer
returns-then-step-b-clause-longer c = λ _.
    let sp = spot c.args.rings.now in
    let all = counted_all sp c.args.b c.round.q.code c.step-in-round.result c.round.counter (codes - c.round.counter) (codes - (c.round.counter + 1)) (omega (arith, codes_are)) c.round.invariant.from_b (stepped _ _ _ _ _ c.round.invariant.round_b c.step-in-round.ensures.next c.step-in-round.ensures.code) c.if-step-b.true in
    let some = counted_some sp c.args.a c.round.p.code c.round.counter (codes - c.round.counter) (codes - (c.round.counter + 1)) (omega (arith, codes_are)) c.round.invariant.from_a in
    omega (arith, all, some)

pub round-preserved : goal.round-preserved
round-preserved c = let sp = spot c.args.rings.now in record {
  round_a = c.step.ensures.rings ∙ c.round.invariant.round_a;
  round_b = c.step-in-round.ensures.rings ∙ c.round.invariant.round_b;
  live_a = subst (λ (m : RingMap). live (spot m) c.step.new.self.code ≡ true) c.round.invariant.round_a (c.step.ensures.permutation.live _ _ c.step.ensures.next);
  live_b = subst (λ (m : RingMap). live (spot m) c.step-in-round.new.self.code ≡ true) c.round.invariant.round_b (c.step-in-round.ensures.permutation.live _ _ c.step-in-round.ensures.next);
  from_a = counted_more sp c.args.a c.round.p.code c.step.new.self.code c.round.counter (codes - c.round.counter) (codes - (c.round.counter + 1)) (omega (arith, codes_are)) c.round.invariant.from_a (stepped _ _ _ _ _ c.round.invariant.round_a c.step.ensures.next refl) (λ e. c.if-step-a.false (c.step.ensures.code ∙ e));
  from_b = counted_more sp c.args.b c.round.q.code c.step-in-round.new.self.code c.round.counter (codes - c.round.counter) (codes - (c.round.counter + 1)) (omega (arith, codes_are)) c.round.invariant.from_b (stepped _ _ _ _ _ c.round.invariant.round_b c.step-in-round.ensures.next refl) (λ e. c.if-step-b.false (c.step-in-round.ensures.code ∙ e));
}

pub returns-clause-shorter : goal.returns-clause-shorter
returns-clause-shorter c = λ _.
    let sp = spot c.args.rings.now in
    let a = counted_over sp c.args.a c.round.p.code c.round.counter (codes - c.round.counter) (omega (arith, codes_are)) c.round.invariant.from_a in
    let b = counted_over sp c.args.b c.round.q.code c.round.counter (codes - c.round.counter) (omega (arith, codes_are)) c.round.invariant.from_b in
    omega (arith, a, b)

pub returns-clause-longer : goal.returns-clause-longer
returns-clause-longer c = λ e. absurd (true≢false e)
